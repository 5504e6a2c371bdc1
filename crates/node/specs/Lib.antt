-- What the functions of this crate give that `model` does not name.
pub mod Word
