-- Laws of the marks that the code reads and writes.
pub mod Rows
pub mod Words
