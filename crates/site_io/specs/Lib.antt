pub mod Calls
pub mod Counts
pub mod Crashed
pub mod Disk
pub mod Failing
pub mod MemDisk
pub mod Outside
pub mod Told
pub mod Whole
-- only for private contracts, invariants and proofs
pub mod MemDiskLeft
pub mod Replay
pub mod TornBy
