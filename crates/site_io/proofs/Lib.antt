pub mod Crashing
pub mod Counts
pub mod Looking
pub mod Moments
pub mod Reading
