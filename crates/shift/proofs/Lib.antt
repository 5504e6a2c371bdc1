-- Laws that the functions' proofs cite.
pub mod Moves
pub mod Shifting
pub mod AtNode
pub mod NodeWords
pub mod Freeing
pub mod Splitting
