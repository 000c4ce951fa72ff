pub mod Putting
pub mod Lines
pub mod Rows
pub mod Asking
