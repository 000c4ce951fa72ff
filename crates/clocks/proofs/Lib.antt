-- What the proofs of several functions use.
mod Turn
mod Filling
mod Meeting
mod Basing
mod Seeding
mod Words
mod Routing
mod Handing
