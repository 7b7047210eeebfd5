pub mod Walking
pub mod Folds
