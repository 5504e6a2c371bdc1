-- What the functions of this crate answer, where the model has no name for it.
pub mod Lists
