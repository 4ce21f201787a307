pub mod Growing
pub mod Whole
pub mod Naming
pub mod Telling
pub mod Refusals
