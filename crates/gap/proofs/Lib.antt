-- Laws that the functions' proofs cite, and what a caller may know of the pairs.
pub mod Around
pub mod Places
