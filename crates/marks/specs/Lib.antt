-- Nodes in a row that are marked.
pub mod Runs
