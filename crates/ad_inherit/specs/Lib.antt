pub mod Flags
pub mod Copies
pub mod Whole
pub mod Creation
pub mod Frozen
