-- What the proofs of several functions use.
mod Order
pub mod Turned
pub mod Numbers
