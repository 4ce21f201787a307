pub mod Drawn
pub mod Asked
