pub mod Lines
pub mod Compares
-- only for private contracts and proofs
pub mod Steps
