pub mod Columns
pub mod Index
pub mod Lent
pub mod Appending
pub mod Entries
