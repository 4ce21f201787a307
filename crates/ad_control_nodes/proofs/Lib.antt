pub mod Lists
pub mod Entering
pub mod Parting
pub mod Standing
pub mod Listing
pub mod Owning
