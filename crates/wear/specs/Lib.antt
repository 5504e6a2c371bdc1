-- What the functions of this crate go through.
pub mod Counting
