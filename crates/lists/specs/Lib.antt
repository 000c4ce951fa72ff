-- Choosing, lists and ranking: what the definitions of the other crates are written with, and its laws. Nothing here knows of timing.
pub mod Choice
pub mod Parts
pub mod Rank
pub mod Laws
