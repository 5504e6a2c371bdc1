-- Words in which the laws are said.
pub mod Wearing
