pub mod Words
pub mod Grammar
pub mod Reading
pub mod Canonical
-- only for private contracts, invariants and proofs
pub mod Calls
