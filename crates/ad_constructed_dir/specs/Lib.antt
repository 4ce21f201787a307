pub mod Changing
-- only for private contracts, invariants and proofs
pub mod Writes
