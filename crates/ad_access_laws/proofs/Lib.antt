pub mod OneEntry
pub mod OneGroup
