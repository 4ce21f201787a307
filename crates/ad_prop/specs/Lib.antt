pub mod Step
-- only for private contracts, invariants and proofs
pub mod Turn
