mod SignLaws
mod DrawnLaws
mod NeededLaws
mod WayLaws
pub mod Stays
