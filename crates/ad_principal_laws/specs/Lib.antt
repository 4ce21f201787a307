pub mod Agreeing
pub mod Frames
