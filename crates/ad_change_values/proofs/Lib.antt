pub mod SentLaws
pub mod HeldLaws
pub mod ItemLaws
pub mod FinalLaws
pub mod PileLaws
pub mod PileTaking
pub mod RepeatLaws
pub mod RowLaws
