pub mod Links
pub mod Loaded
-- only for private contracts, invariants and proofs
pub mod Seen
pub mod Settling
pub mod Counting
