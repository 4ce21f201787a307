pub mod Tries
pub mod Traces
-- only for private contracts, invariants and proofs
pub mod Moves
pub mod Additions
pub mod ItemWords
pub mod Steps
pub mod Decoding
