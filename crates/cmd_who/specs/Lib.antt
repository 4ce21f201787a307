pub mod Asks
-- only for private contracts and proofs
pub mod Asking
