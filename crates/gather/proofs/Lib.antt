-- Laws that the functions' proofs cite.
pub mod Pairs
pub mod Slots
pub mod Leaves
