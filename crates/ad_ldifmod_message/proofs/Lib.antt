pub mod Numbers
pub mod Spelled
pub mod Grouped
pub mod Ranged
