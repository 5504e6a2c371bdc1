-- The marked leaves, the rounds that find suspects, and numbers compared with all after them.
pub mod Marked
pub mod Rounds
pub mod Once
