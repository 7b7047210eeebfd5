pub mod Remainder
pub mod Reaches
pub mod State
