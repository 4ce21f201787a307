pub mod Edits
pub mod Replacing
pub mod StandingLaws
pub mod StepsUp
pub mod SchemaNames
pub mod NameLaws
pub mod ShownLaws
pub mod Changes
pub mod Few
pub mod AllMay
pub mod Loading
pub mod WeighingLaws
pub mod Describing
mod HolderLaws
mod HolderLists
