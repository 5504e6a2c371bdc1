-- What a split asks of a tree; the contracts of crates/insert speak these words.
pub mod Parts
