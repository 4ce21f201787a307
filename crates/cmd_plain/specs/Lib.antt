pub mod Request
pub mod Access
pub mod Sddl
-- only for private contracts, invariants and proofs
pub mod RequestReading
pub mod RequestView
pub mod SddlReply
