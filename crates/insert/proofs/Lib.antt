-- The laws behind the insertion call.
pub mod Testing
pub mod Judging
pub mod Growing
pub mod Splitting
pub mod Entering
pub mod Counting
