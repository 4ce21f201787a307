pub mod Edges
pub mod Chains
pub mod Graph
pub mod Lines
