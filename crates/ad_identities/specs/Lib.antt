pub mod Identities
pub mod Named
-- only for private contracts, invariants and proofs
pub mod Told
