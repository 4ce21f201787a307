pub mod Staying
pub mod Stands
pub mod Groups
pub mod Found
