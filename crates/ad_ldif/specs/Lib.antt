pub mod Lines
pub mod Logical
pub mod Fields
pub mod Records
pub mod Story
pub mod Change
pub mod ChangeLines
pub mod Changing
pub mod Changes
pub mod Ranges
pub mod Pieces
-- only for private contracts, invariants and proofs
pub mod Cut
pub mod Left
pub mod Folds
