pub mod Refusing
pub mod Failing
pub mod Begun
pub mod Readying
pub mod Parts
pub mod ReadSoFar
pub mod Fronts
pub mod Last
