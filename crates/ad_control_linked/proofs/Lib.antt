pub mod Nodes
pub mod Linking
