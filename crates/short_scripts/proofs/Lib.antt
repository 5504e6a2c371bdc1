-- What the proofs of the functions cite: a script's words gone through, the map that tables are held to, what is met.
pub mod Words
pub mod Keys
pub mod Comparing
pub mod Counting
pub mod Acting
pub mod Running
