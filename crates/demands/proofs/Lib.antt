-- The demands of the order, each a theorem in a file of its own over what the operations return and write, and in Laws what they rest on.
pub mod Laws
pub mod Demand1
pub mod Slack
pub mod Demand2
pub mod Demand3
pub mod Total
pub mod Program
