pub mod Syntax
pub mod Value
pub mod Normal
pub mod ValueOf
pub mod Pieces
pub mod Sent
-- only for private contracts, invariants and proofs
pub mod Held
pub mod Search
pub mod Reading
