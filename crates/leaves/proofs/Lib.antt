-- What the functions' proofs cite.
pub mod WaysLaws
pub mod HitLaws
pub mod FoundLaws
pub mod Along
