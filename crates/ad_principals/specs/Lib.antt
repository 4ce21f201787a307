pub mod Groups
pub mod Tokens
pub mod Named
pub mod Alike
-- only for private contracts, invariants and proofs
pub mod Membership
pub mod Reaching
