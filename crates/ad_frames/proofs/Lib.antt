pub mod FrameCodec
pub mod SourceSteps
pub mod FramesLaws
pub mod Cutting
pub mod Filled
