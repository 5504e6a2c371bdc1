-- What entering a number comes to, and which numbers the cells hold.
pub mod Cells
pub mod Filed
