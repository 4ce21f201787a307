pub mod Faults
pub mod Records
pub mod Schema
pub mod Pieces
-- only for private contracts, invariants and proofs
pub mod Seen
pub mod Good
pub mod Prefixed
