mod Texts
mod TextLaws
mod Sighted
mod ReadLaws
mod NeedsLaws
mod ToldLaws
pub mod JudgedLaws
mod Members
