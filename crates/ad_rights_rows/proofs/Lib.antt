pub mod Sets
pub mod Changing
pub mod Telling
pub mod Signs
pub mod Listing
