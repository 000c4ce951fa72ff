-- The laws of the definitions; each file is above those that it rests on.
pub mod Signed
pub mod Prepared
pub mod Laid
pub mod Totals
pub mod Small
pub mod Bounded
