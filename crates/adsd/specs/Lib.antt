pub mod Commands
pub mod NoSite
