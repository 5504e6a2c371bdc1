-- The laws behind the functions of this crate, and those that the writing calls cite.
pub mod Judging
pub mod Parts
pub mod Mending
pub mod Ending
pub mod Rooted
