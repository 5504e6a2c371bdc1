-- Laws that the functions' proofs cite.
pub mod Looks
pub mod Going
pub mod State
