-- The laws behind the functions of this crate.
pub mod Images
pub mod Lines
pub mod Rest
pub mod Going
pub mod Answers
pub mod Changes
