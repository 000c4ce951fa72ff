-- The laws of the definitions, a file for each subject; each stands behind those that it rests on.
pub mod Granted
pub mod Runs
pub mod Ancestors
pub mod Slacks
pub mod Ordered
pub mod Reported
pub mod Widened
pub mod Turns
pub mod TableTests
pub mod TableOrder
pub mod TextTests
pub mod TextOrder
pub mod Refused
pub mod Printing
