-- The laws of requests carried out and of what is printed of them.
pub mod Spoken
