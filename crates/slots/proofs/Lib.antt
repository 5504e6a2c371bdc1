-- Laws that the functions' proofs cite.
pub mod Scans
pub mod Places
pub mod Kept
pub mod Shows
pub mod Surveys
