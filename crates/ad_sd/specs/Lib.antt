pub mod Sd
pub mod Reading
pub mod Writing
pub mod Normal
pub mod NormalReading
pub mod SdIn
pub mod Seen
pub mod Shown
pub mod Entries
pub mod View
-- only for private contracts, invariants and proofs
pub mod SidHere
pub mod Lists
