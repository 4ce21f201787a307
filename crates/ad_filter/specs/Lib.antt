pub mod ThreeValues
pub mod Filtering
pub mod Given
-- only for private contracts, invariants and proofs
pub mod Comparing
pub mod Keeping
