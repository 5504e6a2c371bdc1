-- A search by looks over one table is the search; during one call it answers as before it or as after it.
pub mod Still
pub mod TwoLooks
pub mod Walk
pub mod Moments
pub mod Histories
pub mod Skips
pub mod StoresHistory
pub mod Readers
pub mod OtherCalls
-- In one call no word comes back to a value that it lost.
pub mod Values
pub mod ShiftValues
pub mod SettledNodes
pub mod SplitValues
pub mod SplitLevels
pub mod SplitNode
pub mod RestSteady
pub mod Sights
pub mod InsertSteady
pub mod RootSteady
pub mod Returns
pub mod Returned
pub mod Copies
pub mod Snapshots
-- What a search by looks answers goes by its looks alone.
pub mod Decide
pub mod Decided
