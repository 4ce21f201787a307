pub mod Adding
pub mod Listed
pub mod Texts
pub mod Tokens
