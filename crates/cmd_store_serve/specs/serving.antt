pub mod Reached
pub mod Crash
pub mod Does
-- only for private contracts, invariants and proofs
pub mod One
