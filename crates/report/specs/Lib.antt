-- The asking: a row as it is written, the row of a record, the rows of several, the answer.
pub mod Row
pub mod Rowed
pub mod Writing
pub mod Answered
