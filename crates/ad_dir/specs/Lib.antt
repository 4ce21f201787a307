pub mod Standing
pub mod Listing
pub mod Conditions
pub mod Applying
pub mod Holders
-- only for private contracts, invariants and proofs
pub mod Kept
pub mod Weighing
pub mod Values
