pub mod Least
pub mod Objects
pub mod Parts
pub mod Told
-- only for private contracts, invariants and proofs
pub mod Waiting
