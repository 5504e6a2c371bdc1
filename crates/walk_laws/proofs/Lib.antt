-- The check that visits from the root down answers what the definition of sound says.
pub mod Sums
pub mod Run
pub mod Local
pub mod WalkLaw
pub mod ChainLaw
pub mod AnyRoot
