pub mod ChainLemmas
pub mod RowLemmas
pub mod IndexLemmas
pub mod SetLaws
pub mod HeightLemmas
pub mod WorkLemmas
