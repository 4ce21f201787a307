pub mod Values
pub mod Weights
pub mod AttrNames
pub mod ClassGuids
