pub mod Live
pub mod Itself
