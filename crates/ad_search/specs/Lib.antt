pub mod Scope
pub mod Search
pub mod Compare
pub mod Reads
pub mod Compared
-- only for private contracts, invariants and proofs
pub mod Parents
pub mod Subtree
pub mod Steps
pub mod ReadSteps
pub mod Needles
pub mod Indexed
pub mod Needed
