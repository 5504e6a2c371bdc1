-- Laws on Booleans, numbers and lists.
pub mod Tools
pub mod Tests
pub mod Members
pub mod Filters
pub mod Distinct
pub mod Lists
pub mod Twos
pub mod Counts
pub mod Slots
pub mod Recordings
pub mod Steps
pub mod OrdinaryMap
