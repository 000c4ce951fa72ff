-- The laws of the definitions.
pub mod Kept
pub mod Plan
pub mod Given
