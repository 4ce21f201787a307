pub mod Path
pub mod Tree
pub mod TypesOf
pub mod Tried
