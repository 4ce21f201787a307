pub mod Lines
pub mod Descriptor
pub mod Schema
pub mod Objects
pub mod Ldif
pub mod Messages
pub mod Frames
