-- Laws of a store seen by the nodes of a table.
pub mod Stores
pub mod Outside
pub mod Frames
pub mod SlotWords
pub mod SlotRuns
pub mod Views
pub mod HeadStores
pub mod LinkStores
pub mod NodeStores
pub mod NewNodes
pub mod ShiftViews
