-- The laws behind many insertions in one call.
pub mod Going
pub mod Widths
