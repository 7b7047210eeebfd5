pub mod Reading
pub mod Running
