pub mod Nodes
pub mod Loaded
pub mod Passing
pub mod Loading
