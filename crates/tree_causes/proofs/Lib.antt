pub mod CountLaws
pub mod Flags
