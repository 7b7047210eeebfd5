pub mod Going
pub mod Visiting
pub mod Stepping
