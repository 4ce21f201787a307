pub mod HoldSteps
pub mod Inputs
pub mod GrantsSteps
