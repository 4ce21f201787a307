pub mod Sight
pub mod Allowed
pub mod Masks
pub mod Passwords
pub mod Labels
