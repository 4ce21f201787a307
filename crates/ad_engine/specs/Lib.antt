pub mod Answer
pub mod Runs
-- only for private contracts, invariants and proofs
pub mod Served
