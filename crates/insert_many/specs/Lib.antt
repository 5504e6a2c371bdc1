-- How far a batch has come.
pub mod Going
