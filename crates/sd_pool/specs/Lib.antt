pub mod Blocks
pub mod Pool
pub mod Sharers
-- only for private contracts, invariants and proofs
pub mod Found
pub mod Holes
pub mod Slots
pub mod Tallies
pub mod Kept
