-- Recordings that are new to a map.
pub mod New
