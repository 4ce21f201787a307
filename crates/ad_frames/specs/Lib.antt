pub mod Fault
pub mod Limits
pub mod Kinds
pub mod Frame
pub mod Reading
pub mod Source
pub mod Frames
