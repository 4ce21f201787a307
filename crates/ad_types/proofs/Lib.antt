pub mod TreeLaws
pub mod BuildLaws
pub mod LeafLaws
mod Paths
