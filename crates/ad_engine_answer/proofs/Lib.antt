pub mod Framed
pub mod Effects
pub mod Decisions
pub mod RunLaws
