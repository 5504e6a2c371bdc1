-- Laws that the functions' proofs cite.
pub mod Entering
pub mod Bounds
pub mod Filling
pub mod Both
pub mod Call
