-- What the functions of this crate answer, where the model has no name for it.
pub mod Tests
pub mod Parts
pub mod Entered
