pub mod Ground
pub mod Parts
-- only for private contracts, invariants and proofs
pub mod Steps
