-- What the functions of this crate store, by the node's words and the record that was read.
pub mod Stores
