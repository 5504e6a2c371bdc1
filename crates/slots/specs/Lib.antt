-- A node's slots, one by one: in use, shown and kept ones from a slot on; what is known of them on the way; the ways down.
pub mod Scan
pub mod Held
pub mod Surveyed
pub mod Gathered
pub mod Shown
