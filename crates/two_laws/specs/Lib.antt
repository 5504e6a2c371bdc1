-- What the parts of a write ask of the table that they are given.
pub mod Parts
