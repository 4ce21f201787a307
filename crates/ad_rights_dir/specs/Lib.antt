pub mod Rights
pub mod Granted
-- only for private contracts, invariants and proofs
pub mod Kept
