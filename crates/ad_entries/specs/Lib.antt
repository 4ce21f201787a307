pub mod Seen
pub mod Entry
pub mod Rising
-- only for private contracts, invariants and proofs
pub mod Given
pub mod Kinds
pub mod Places
pub mod Asked
pub mod Verdicts
pub mod Judged
