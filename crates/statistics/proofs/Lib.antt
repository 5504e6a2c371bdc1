-- Laws that the proofs of the functions cite.
pub mod Codes
pub mod Lefts
pub mod Trees
pub mod Whole
pub mod Meaning
