mod Examples
pub mod Printing
