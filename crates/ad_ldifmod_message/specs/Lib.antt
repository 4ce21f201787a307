pub mod Asked
pub mod Written
-- only for private contracts and proofs
pub mod Grouping
