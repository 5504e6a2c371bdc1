-- What the functions of this crate speak of, beyond the request's definitions.
pub mod Held
pub mod Met
pub mod Actions
