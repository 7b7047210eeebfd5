pub mod Underway
pub mod Levels
pub mod Answering
