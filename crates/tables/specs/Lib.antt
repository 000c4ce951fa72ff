-- The check of a table: what it tells, and what its parts compute.
pub mod Known
pub mod Parts
