pub mod Plain
pub mod Base
pub mod Sample
pub mod Sent
pub mod Drafts
pub mod Made
pub mod Before
pub mod Sound
