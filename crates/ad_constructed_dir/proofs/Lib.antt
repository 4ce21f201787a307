pub mod ChangingLaws
pub mod AlikeLaws
