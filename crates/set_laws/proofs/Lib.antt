-- Laws of sets of numbers.
pub mod Marks
pub mod Round
pub mod Holding
pub mod Closing
pub mod Room
