-- Laws that the functions' proofs cite.
pub mod Turns
pub mod Bits
pub mod Seeking
pub mod Marking
pub mod Running
pub mod Tallying
pub mod Answers
