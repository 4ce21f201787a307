pub mod Getting
pub mod Sets
pub mod SetLaws
pub mod AddLaws
pub mod ByLaws
pub mod Choosing
