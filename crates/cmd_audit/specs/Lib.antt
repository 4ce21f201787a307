pub mod Tries
pub mod Log
pub mod State
pub mod Audit
-- only for private contracts, invariants and proofs
pub mod Steps
