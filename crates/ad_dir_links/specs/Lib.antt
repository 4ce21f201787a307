pub mod Counted
pub mod Changing
pub mod Marks
