pub mod Granted
pub mod Values
