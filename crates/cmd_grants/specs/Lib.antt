pub mod Frames
pub mod Lines
pub mod Given
pub mod Grants
-- only for private contracts and proofs
pub mod Sending
pub mod Judged
pub mod Answering
