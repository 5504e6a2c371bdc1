-- What the functions and laws of this crate speak of, beyond document 01's definitions.
pub mod Kinds
