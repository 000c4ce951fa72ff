-- Entering a record: what it does to the list.
pub mod Laws
