pub mod Asked
pub mod Question
pub mod Requests
pub mod Requirements
pub mod Asking
