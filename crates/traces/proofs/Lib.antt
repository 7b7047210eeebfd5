pub mod Testing
pub mod Following
pub mod Calling
