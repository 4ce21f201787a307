pub mod Policies
-- examples, that compute
pub mod examples
-- only for private contracts, invariants and proofs
pub mod Seen
