pub mod Privileges
pub mod WellKnown
pub mod Holder
pub mod Matching
pub mod Grant
pub mod Tree
pub mod Visible
pub mod Alike
pub mod Rights
pub mod Rank
-- only for private contracts, invariants and proofs
pub mod Found
