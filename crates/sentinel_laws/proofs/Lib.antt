-- Sentinels: a search that takes them answers as the plain one; a write keeps true words true.
pub mod Lines
pub mod Slices
pub mod InLedger
pub mod Searches
pub mod Unstored
pub mod Leaves
pub mod Reaching
pub mod NodeWords
pub mod TrueWords
