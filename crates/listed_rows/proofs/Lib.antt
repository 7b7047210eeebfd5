pub mod Standing
pub mod Growing
pub mod Searching
