-- Laws of the tour, and of what it gathers.
pub mod Steps
pub mod Ends
pub mod Remaining
pub mod Recursion
pub mod Meets
pub mod Entered
pub mod Ways
pub mod Gathering
pub mod Sound
pub mod Packable
pub mod Calls
