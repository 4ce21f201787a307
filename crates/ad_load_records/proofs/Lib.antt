pub mod Lists
pub mod Prefixed
pub mod Inverting
pub mod Few
pub mod Reading
pub mod Cutting
pub mod Adding
pub mod Short
