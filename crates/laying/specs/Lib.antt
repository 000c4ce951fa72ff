-- The work area prepared for a table and laid for a test, and bounds for the tests.
pub mod Standing
pub mod Bounds
pub mod Laws
