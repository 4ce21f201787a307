pub mod Change
pub mod Carried
-- only for private contracts and proofs
pub mod Reply
