-- What the parts of a packed table are.
pub mod Parts
