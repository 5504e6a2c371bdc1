-- The definitions tried: writes whole and cut, what breaks soundness, single sentences, and those of requests 1, 5, 6, 8 and 10 to 12, and
-- of scale 2.
pub mod Calls
pub mod Unsound
pub mod Sentences
pub mod NextUp
pub mod Collections
pub mod Salvages
pub mod BothSalvaged
pub mod SentinelWords
pub mod Looks
pub mod Scripts
pub mod Wear
pub mod Packs
