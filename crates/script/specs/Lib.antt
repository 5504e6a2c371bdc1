-- What a request is answered with, and what is printed of the answer.
pub mod Spoken
pub mod Session
