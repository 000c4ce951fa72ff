-- What the proofs of several functions use.
mod Facts
mod Loops
mod Order
