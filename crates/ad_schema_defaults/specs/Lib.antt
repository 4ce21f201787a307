pub mod NewClass
pub mod Defaults
-- only for private contracts, invariants and proofs
pub mod Lowest
