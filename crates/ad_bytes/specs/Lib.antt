pub mod Reading
pub mod Numbers
pub mod Prefix
pub mod Hex
pub mod Puts
-- only for private contracts, invariants and proofs
pub mod Machine
mod Lists
