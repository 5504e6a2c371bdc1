-- Laws of the slots of one node.
pub mod Steps
pub mod Hiding
pub mod SlotStores
pub mod Moves
pub mod Shifts
pub mod Places
