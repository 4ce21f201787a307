pub mod Numbers
pub mod Fields
pub mod Faults
pub mod Attributes
pub mod Classes
pub mod Records
pub mod Meaning
pub mod Sound
-- only for private contracts, invariants and proofs
pub mod Titles
pub mod Links
pub mod Tables
