pub mod Naming
pub mod OnePass
