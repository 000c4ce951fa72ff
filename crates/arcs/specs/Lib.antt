-- The arcs of a table, sorted by the pin that they enter, and the number of walks from each pin.
pub mod Laid
pub mod Sorting
pub mod Counting
pub mod Laws
