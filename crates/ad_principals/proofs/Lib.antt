pub mod Rising
pub mod TokenLaws
pub mod Sets
pub mod Identified
pub mod Steps
pub mod Remaining
pub mod Live
