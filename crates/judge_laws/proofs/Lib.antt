-- What computes the answer says what is asked; our lists are accepted.
pub mod Compared
pub mod Unflushed
pub mod Judged
pub mod Ours
pub mod Calls
pub mod Numbers
