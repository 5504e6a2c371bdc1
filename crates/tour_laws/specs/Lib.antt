-- What the laws of the tour are about, besides the tour itself.
pub mod Visits
pub mod Walk
