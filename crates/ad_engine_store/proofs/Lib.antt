pub mod Opening
pub mod Keeping
pub mod Making
pub mod Made
pub mod Commits
pub mod CommitLaws
pub mod Rewriting
pub mod TokenLaws
