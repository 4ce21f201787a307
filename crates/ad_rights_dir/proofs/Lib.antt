pub mod Refusals
pub mod Living
pub mod Apart
pub mod Answered
