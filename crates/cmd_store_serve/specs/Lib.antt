pub mod serving
pub mod SampleFrames
pub mod Answers
pub mod Text
pub mod Size
pub mod Outcome
pub mod Sample
-- only for private contracts, invariants and proofs
pub mod SampleServing
