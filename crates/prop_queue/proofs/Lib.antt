pub mod Standing
pub mod Distinct
pub mod Known
