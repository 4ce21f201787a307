pub mod Privileges
pub mod Needs
pub mod Checks
pub mod Requests
pub mod Descriptors
pub mod Validated
pub mod Adding
pub mod Deleting
pub mod Renaming
pub mod Modifying
pub mod Verdicts
-- only for private contracts, invariants and proofs
pub mod Judged
pub mod OwnWrites
