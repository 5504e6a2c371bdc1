-- A summary that is true of a table.
pub mod Current
