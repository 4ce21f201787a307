pub mod Causes
pub mod Load
pub mod Stale
pub mod Check
pub mod List
pub mod Effective
pub mod Settle
-- only for private contracts, invariants and proofs
pub mod Input
pub mod Loading
pub mod Answering
