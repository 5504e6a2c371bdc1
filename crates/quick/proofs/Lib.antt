-- Laws that the functions' proofs cite.
pub mod Beginning
pub mod Ending
