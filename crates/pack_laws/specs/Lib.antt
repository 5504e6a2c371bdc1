-- What the laws of packing are about, besides the packing itself.
pub mod Needed
