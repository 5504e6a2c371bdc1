-- Laws that the functions' proofs cite.
pub mod LeafLaws
pub mod LastLaws
pub mod RowLaws
pub mod RoundLaws
pub mod OnceLaws
