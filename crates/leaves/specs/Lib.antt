-- Where a recording number is.
pub mod Hits
pub mod Siblings
