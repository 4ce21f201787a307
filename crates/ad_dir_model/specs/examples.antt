pub mod Staff
pub mod Move
pub mod Protect
