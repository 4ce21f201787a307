pub mod Element
pub mod Integer
pub mod Reading
pub mod Writing
