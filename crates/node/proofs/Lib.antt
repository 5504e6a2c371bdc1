-- What the functions' proofs cite, and the laws of a node's words.
pub mod Answers
pub mod Chunks
pub mod Loops
pub mod Making
pub mod Roots
pub mod WordLaws
