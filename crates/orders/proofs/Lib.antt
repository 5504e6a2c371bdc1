-- Laws of the desk, of room on it, and what a finished desk holds.
pub mod Steps
pub mod Rooms
pub mod Rest
pub mod Turning
pub mod Meaning
