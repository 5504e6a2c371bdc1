-- Laws that the functions' proofs cite.

pub mod Parts
pub mod Filling
pub mod Leaves
pub mod Rows
pub mod Raising
