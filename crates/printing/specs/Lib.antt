pub mod Put
pub mod Out
pub mod Room
pub mod Examples
