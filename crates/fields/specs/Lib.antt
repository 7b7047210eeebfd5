pub mod Bytes
pub mod Names
pub mod Tables
pub mod Inner
