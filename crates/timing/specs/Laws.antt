-- What the laws of proofs/Laws speak of, a file for each subject.
pub mod Sound
pub mod Routes
pub mod Common
pub mod Walked
pub mod Listed
pub mod Picks
pub mod Ranged
pub mod Cancel
pub mod Bounds
pub mod Order
pub mod Accepted
pub mod Wider
pub mod Written
pub mod Steps
pub mod Counted
