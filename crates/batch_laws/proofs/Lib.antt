-- Many insertions in one call.
pub mod Taking
pub mod After
pub mod Folds
