-- Request 11: numbers and scripts, the order, the two calls, and what is met over all scripts.
pub mod Rank
pub mod Calls
pub mod Sums
pub mod Runs
pub mod Counted
