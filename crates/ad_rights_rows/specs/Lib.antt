pub mod Rows
pub mod Kept
-- only for private contracts, invariants and proofs
pub mod Steps
