pub mod Refusal
pub mod Delivery
pub mod Reading
pub mod Texts
pub mod Descriptors
pub mod Tree
pub mod Access
-- only for private contracts, invariants and proofs
pub mod CallerSeen
