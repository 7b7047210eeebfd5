pub mod Touched
pub mod Clearing
