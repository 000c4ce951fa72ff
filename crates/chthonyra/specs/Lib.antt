-- The library for C and Rust callers: what its answers tell, and that nothing is lost.
pub mod Back
pub mod Told
