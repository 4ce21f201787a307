pub mod Entry
pub mod Acl
pub mod Reading
pub mod Writing
pub mod Mask
pub mod Codes
pub mod EntryIn
pub mod EntrySeen
pub mod Exact
pub mod Written
-- only for private contracts, invariants and proofs
pub mod Offsets
