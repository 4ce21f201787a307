pub mod Holders
pub mod Deciding
pub mod Granting
pub mod Unasked
