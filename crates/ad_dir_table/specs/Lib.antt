pub mod Entry
pub mod Listing
pub mod Pooled
pub mod NameKeys
pub mod Exact
pub mod KeyChanges
pub mod Lists
pub mod Indexed
-- only for private contracts, invariants and proofs
pub mod Fields
pub mod Hashes
