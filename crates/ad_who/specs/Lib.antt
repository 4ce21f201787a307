pub mod Decider
pub mod Reason
pub mod Further
pub mod Lines
pub mod Faults
pub mod Answers
