pub mod Changes
pub mod Folding
