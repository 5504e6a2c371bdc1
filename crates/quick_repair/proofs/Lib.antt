-- Laws that the function's proof cites.
pub mod Repairing
