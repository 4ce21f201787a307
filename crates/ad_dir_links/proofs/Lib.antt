pub mod Counting
mod Balance
mod Gathering
mod Ties
mod Nexts
pub mod Laws
