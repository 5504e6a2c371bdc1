-- In which order the passes meet nodes and pairs.
pub mod Passes
