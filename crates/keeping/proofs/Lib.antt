-- Laws that the functions' proofs cite.
pub mod Used
pub mod Downwards
pub mod Marks
pub mod Nodes
