pub mod Rights
pub mod Listed
pub mod Names
