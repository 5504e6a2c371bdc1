-- What the functions' proofs cite.
pub mod Slices
pub mod Passes
