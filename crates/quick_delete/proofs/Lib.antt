-- Laws that the functions' proofs cite.
pub mod Finding
pub mod Deleting
pub mod Calling
