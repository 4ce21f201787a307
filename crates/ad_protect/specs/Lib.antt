pub mod Run
-- only for private contracts, invariants and proofs
pub mod Spreading
pub mod Putting
