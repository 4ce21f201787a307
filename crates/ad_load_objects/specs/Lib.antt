pub mod Through
pub mod Drafts
pub mod Objects
-- only for private contracts, invariants and proofs
pub mod Seen
pub mod KeptSeen
pub mod Index
pub mod Above
pub mod Found
pub mod Had
pub mod Standing
