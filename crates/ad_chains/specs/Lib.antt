pub mod Chain
pub mod Sets
pub mod Ways
-- only for private contracts, invariants and proofs
pub mod Work
pub mod Levels
pub mod Joining
