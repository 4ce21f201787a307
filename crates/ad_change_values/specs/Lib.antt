pub mod Values
pub mod Items
-- only for private contracts, invariants and proofs
pub mod Judging
pub mod StoredKeys
pub mod Piles
pub mod ByAttr
