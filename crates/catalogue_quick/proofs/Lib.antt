-- What the entry points' proofs cite.
pub mod Kept
