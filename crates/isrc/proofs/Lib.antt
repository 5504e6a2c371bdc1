-- The laws of codes and keys, and what they rest on.
pub mod Digits
pub mod Characters
pub mod Codes
pub mod Laws
