pub mod Pending
-- only for private contracts, invariants and proofs
pub mod Places
pub mod Numbers
