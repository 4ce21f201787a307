mod Counting
mod Owning
mod Putting
mod Told
mod Whys
pub mod Chained
