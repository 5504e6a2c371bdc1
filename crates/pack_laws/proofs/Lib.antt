-- Laws of packing.
pub mod Stacks
pub mod Standing
pub mod Groups
pub mod Fences
pub mod Counts
pub mod Enough
pub mod Packed
pub mod Fresh
pub mod Call
