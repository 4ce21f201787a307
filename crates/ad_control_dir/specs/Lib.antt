pub mod Control
-- only for private contracts, invariants and proofs
pub mod Drawn
