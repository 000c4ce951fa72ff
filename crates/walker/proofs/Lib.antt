-- What rests on the order in which the arcs into a pin are taken.
pub mod Laws
