pub mod FilterLaws
pub mod Walks
pub mod Compared
pub mod InOrder
pub mod KeptLaws
