pub mod Batch
pub mod Body
pub mod Rows
-- only for private contracts, invariants and proofs
pub mod Listing
pub mod Noted
pub mod Appends
