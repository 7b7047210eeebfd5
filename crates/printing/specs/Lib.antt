pub mod ThreeFields
pub mod InnerWrote
