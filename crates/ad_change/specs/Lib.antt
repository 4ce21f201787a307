pub mod Tree
pub mod Adding
pub mod Deleting
pub mod Renaming
pub mod Modifying
pub mod Effects
pub mod Plans
-- only for private contracts, invariants and proofs
pub mod Judging
pub mod Others
pub mod Removing
pub mod Depths
pub mod Creating
