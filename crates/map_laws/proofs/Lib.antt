-- Demand 2; and what a call's number goes by.
pub mod Pairs
pub mod Demand2
pub mod Own
