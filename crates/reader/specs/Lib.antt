-- What the reader's contracts are written with.
pub mod Cut
pub mod Answer
pub mod Scan
