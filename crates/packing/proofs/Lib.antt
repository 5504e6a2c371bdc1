-- What the functions' proofs cite.
pub mod Fits
pub mod Filling
pub mod Call
