pub mod AttributeType
pub mod Value
pub mod Grammar
pub mod Text
pub mod Fold
pub mod NameKey
-- only for private contracts, invariants and proofs, and for the function that reads a name off its text
pub mod Utf8State
pub mod Steps
pub mod Parts
pub mod Reading
