-- What the functions of a listing answer.
pub mod Taking
