pub mod Extra
pub mod Cause
pub mod Descriptors
pub mod Members
pub mod Schema
pub mod Causes
-- only for private contracts, invariants and proofs
pub mod Steps
pub mod Counts
