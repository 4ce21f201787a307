-- only for private contracts, invariants and proofs
pub mod Granting
