pub mod Links
pub mod Force
