-- What the functions of this crate make.
pub mod Rows
