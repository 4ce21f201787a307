pub mod Outcome
pub mod Call
pub mod Lines
pub mod Store
