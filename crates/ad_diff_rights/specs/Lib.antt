pub mod Both
pub mod Rights
pub mod Changes
pub mod Parties
pub mod Own
pub mod Same
pub mod Named
pub mod Sides
-- only for private contracts, invariants and proofs
pub mod Steps
pub mod Asked
