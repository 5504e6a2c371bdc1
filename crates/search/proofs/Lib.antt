-- Laws that the functions' proofs cite.
pub mod Standing
pub mod Following
