-- The clock side of a checked table, in a lent work area.
pub mod Clocked
pub mod Turn
pub mod Route
pub mod Kept
pub mod Small
pub mod Tree
pub mod Known
