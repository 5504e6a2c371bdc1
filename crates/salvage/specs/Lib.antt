-- What the functions of this crate take and give.
pub mod Parts
