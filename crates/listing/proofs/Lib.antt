-- What the functions' proofs cite.
pub mod Steps
pub mod Pairs
pub mod Leaves
pub mod Answers
