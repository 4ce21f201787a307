pub mod Worlds
pub mod Told
pub mod Children
pub mod Parts
pub mod Refusals
