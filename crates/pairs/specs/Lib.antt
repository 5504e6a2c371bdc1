-- The numbers of a pass.
pub mod Passes
