-- Laws that the functions' proofs cite.
pub mod Refusing
pub mod Reading
pub mod Setting
pub mod Renewing
pub mod Searching
pub mod Keeping
