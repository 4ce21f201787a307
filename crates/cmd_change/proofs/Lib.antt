pub mod Frames
pub mod Carrying
