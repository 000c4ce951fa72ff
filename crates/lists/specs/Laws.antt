-- What the laws of proofs/Laws speak of, a file for each subject.
pub mod Member
pub mod Sum
pub mod Count
pub mod Means
pub mod Decides
pub mod Unmet
pub mod Scan
pub mod Cut
pub mod Write
pub mod Integer
pub mod Ranking
pub mod Exchange
pub mod Top
pub mod Under
pub mod Falling
pub mod Ranks
pub mod Once
