-- What cells hold.
pub mod Sets
