pub mod ListLaws
pub mod RisingLaws
pub mod ReadLaws
pub mod EntryLaws
pub mod PlaceLaws
pub mod GivenLaws
pub mod AskedLaws
pub mod JudgedLaws
