pub mod Calls
pub mod InnerSteps
