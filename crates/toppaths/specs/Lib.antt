-- What the program does with a text.
pub mod Read
