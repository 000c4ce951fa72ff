-- What the search's contracts name.
pub mod Steps
