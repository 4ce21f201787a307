pub mod Lines
pub mod Changes
pub mod Lists
pub mod Messages
pub mod Grants
pub mod Taken
-- only for private contracts, invariants and proofs
pub mod Steps
