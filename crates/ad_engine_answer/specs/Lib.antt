pub mod Output
pub mod Messages
pub mod Decided
