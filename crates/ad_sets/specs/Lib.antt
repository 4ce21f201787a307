pub mod Told
pub mod Sets
pub mod Rows
-- only for private contracts, invariants and proofs
pub mod Telling
