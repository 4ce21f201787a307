pub mod Places
-- only for private contracts, invariants and proofs
pub mod Standing
