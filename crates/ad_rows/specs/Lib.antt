pub mod Form
pub mod Refusal
-- only for private contracts, invariants and proofs
pub mod Faults
pub mod Parsing
pub mod Reading
pub mod Taking
