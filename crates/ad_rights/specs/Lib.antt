pub mod Holding
pub mod Set
-- only for private contracts, invariants and proofs
pub mod Standing
pub mod Entry
