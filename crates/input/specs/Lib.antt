pub mod Lines
pub mod Input
pub mod Inner
