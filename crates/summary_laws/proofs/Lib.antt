-- Laws of quick calls: with a summary that is true of the table, and on any words.
pub mod Marks
pub mod Splitting
pub mod Entering
pub mod Recordings
pub mod Opened
pub mod Testing
pub mod Quick
pub mod Pages
pub mod Batches
pub mod AnyWords
pub mod AnyWays
pub mod AnyCalls
pub mod ShiftedOut
