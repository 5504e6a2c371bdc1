-- The laws behind this crate, and what a caller may know of new recordings.
pub mod Looking
pub mod Entering
pub mod Fresh
