-- Laws of order lists and cuts.
pub mod Applying
pub mod Barriers
pub mod FlushRule
pub mod LastFlush
pub mod Unflushed
pub mod Images
pub mod Docks
pub mod Cuts
pub mod ExactImages
pub mod Lent
