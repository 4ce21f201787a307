pub mod Dividing
pub mod Descriptors
pub mod Stepping
pub mod OneByOne
pub mod Framing
