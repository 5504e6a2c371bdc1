-- What the functions of this crate find and store.
pub mod Finds
