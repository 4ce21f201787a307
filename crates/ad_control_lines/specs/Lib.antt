pub mod Steps
-- only for private contracts, invariants and proofs
pub mod Tables
pub mod Deciding
