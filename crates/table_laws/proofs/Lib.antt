-- Laws of a table's header, of its collections, of its nodes and of the empty table, from their definitions in `model`.
pub mod Words
pub mod Header
pub mod Making
pub mod Collections
pub mod Nodes
pub mod Empty
pub mod SlotWords
