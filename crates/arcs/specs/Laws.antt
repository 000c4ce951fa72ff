-- The laws of the definitions.
pub mod Sorted
pub mod Ways
pub mod Kept
