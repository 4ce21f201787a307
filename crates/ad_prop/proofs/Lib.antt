pub mod StepLaws
pub mod ChildLaws
