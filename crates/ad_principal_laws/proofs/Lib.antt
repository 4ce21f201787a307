pub mod Tokens
pub mod Putting
pub mod Protecting
pub mod Served
pub mod Written
