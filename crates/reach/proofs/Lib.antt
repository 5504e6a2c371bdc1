-- Laws that the functions' proofs cite, and what the run is on a settled table.
pub mod Descent
pub mod Members
pub mod Unreached
pub mod SlotCounts
pub mod Freeing
pub mod Running
pub mod Marking
pub mod Parents
pub mod Passing
