pub mod EngineWords
pub mod OpenFaults
pub mod Lines
pub mod Answered
pub mod Opened
pub mod Refused
pub mod Ends
-- only for private contracts, invariants and proofs
pub mod Failed
pub mod Ready
