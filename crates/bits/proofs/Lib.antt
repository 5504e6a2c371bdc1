-- Laws of marks.
pub mod Marks
