-- What the laws of proofs/Laws speak of, a file for each subject.
pub mod Granted
pub mod TableOrder
pub mod TextTests
pub mod Refused
