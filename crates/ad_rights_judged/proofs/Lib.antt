pub mod Keeping
pub mod Holders
