-- The laws of the definitions that rest on the order in which the arcs into a pin are taken; each file is above those that it rests on.
pub mod Rest
pub mod Steps
pub mod Gone
