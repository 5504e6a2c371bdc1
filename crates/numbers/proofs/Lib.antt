-- What the function's proof cites, and what a caller may know of the cells.
pub mod Trying
pub mod Filed
pub mod Once
