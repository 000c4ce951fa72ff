-- The work area.
pub mod Area
pub mod Laws
