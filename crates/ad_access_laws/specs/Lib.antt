pub mod Fewer
pub mod Examples
