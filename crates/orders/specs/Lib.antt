-- What the functions of this crate do.
pub mod Desk
