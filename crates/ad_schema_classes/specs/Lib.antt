pub mod Names
pub mod Chains
-- only for private contracts, invariants and proofs
pub mod Hashes
pub mod Flags
pub mod Rows
pub mod Heights
pub mod Work
