-- Laws of sound tables.
pub mod Members
pub mod Rows
pub mod Cover
pub mod Levels
pub mod Parents
pub mod Rising
pub mod Kept
pub mod MapLaw
pub mod NextLaw
pub mod SearchLaw
pub mod Sums
pub mod Gaps
pub mod Leftovers
pub mod Shape
pub mod ListLaw
pub mod PlaceOf
