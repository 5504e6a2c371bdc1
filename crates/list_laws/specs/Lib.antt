-- What holds of each item of a list.
pub mod Each
