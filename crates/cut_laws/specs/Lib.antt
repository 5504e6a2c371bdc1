-- Names for an order list while it grows, for what is unflushed in it, and for stores that lie in a table.
pub mod Growing
pub mod Unflushed
pub mod Inside
