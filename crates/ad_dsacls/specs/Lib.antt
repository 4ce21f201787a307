pub mod Words
pub mod Listing
pub mod Effective
-- only for private contracts and proofs
pub mod Masks
