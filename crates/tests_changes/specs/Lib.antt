pub mod Base
pub mod Deletions
pub mod Renames
pub mod Writes
pub mod WritesWhole
pub mod Additions
pub mod AdditionsWhole
