-- What the functions of the check answer.
pub mod Nodes
pub mod Visited
pub mod Checked
