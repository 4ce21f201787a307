mod NeedleLaws
pub mod NameLaws
pub mod SeenLaws
pub mod AmongLaws
pub mod FoundLaws
pub mod SightLaws
pub mod AboveLaws
pub mod ParentLaws
pub mod StepLaws
pub mod ScopeLaws
pub mod SubtreeLaws
pub mod BaseLaws
mod IndexLaws
pub mod TwoWorlds
pub mod ReadsLaws
pub mod AskedLaws
pub mod AnswerLaws
pub mod GivenNumbers
mod NeedLaws
mod NextLaws
