-- The two readings of "Sound tables" say the same.
pub mod Leftovers
pub mod Neighbours
pub mod Fences
pub mod Joined
pub mod Routing
pub mod Listed
pub mod FromSentences
pub mod FromTest
pub mod Same
