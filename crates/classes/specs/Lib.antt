pub mod Classing
pub mod Mentioned
pub mod Named
