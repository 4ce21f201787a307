pub mod Cutting
pub mod LinkLaws
pub mod Climbing
pub mod Putting
