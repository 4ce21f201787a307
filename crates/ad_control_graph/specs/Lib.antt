pub mod Kinds
pub mod Texts
pub mod Drawing
