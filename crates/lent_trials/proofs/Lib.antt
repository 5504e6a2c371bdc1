-- Batches, what calls return and leave in lent words, case by case, and the records of the C calls; the number of each answer, for all
-- arguments.
pub mod Batched
pub mod LentWords
pub mod CallWords
pub mod EachNumber
