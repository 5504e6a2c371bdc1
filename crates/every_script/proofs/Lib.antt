-- What is printed: a line for each number.
pub mod Lines
