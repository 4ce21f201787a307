pub mod Deliveries
pub mod Normals
pub mod Levels
