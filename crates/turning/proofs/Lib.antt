pub mod Classes
pub mod Tests
pub mod Loops
