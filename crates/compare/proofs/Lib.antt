-- The laws behind the functions of this crate.
pub mod Places
pub mod Maps
pub mod Trees
