pub mod Deciding
pub mod Putting
pub mod Sids
pub mod WhoLines
pub mod Refused
pub mod Refusals
pub mod Telling
pub mod Parties
