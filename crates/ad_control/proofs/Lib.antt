pub mod Ways
pub mod ChainLaws
