-- What the functions' proofs cite.
pub mod NodeLaws
pub mod LookLaws
pub mod CheckLaws
pub mod MarkLaws
pub mod MarkedLaws
pub mod JudgeLaws
pub mod TreesLaws
