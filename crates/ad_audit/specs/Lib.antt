pub mod Audited
pub mod Line
