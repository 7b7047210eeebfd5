pub mod Joining
pub mod Repeats
pub mod Rows
pub mod Stepping
pub mod Answering
pub mod Reading
