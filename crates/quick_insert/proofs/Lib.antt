-- Laws that the functions' proofs cite.
pub mod Splitting
pub mod Testing
pub mod Entering
pub mod Calling
