pub mod Tests
pub mod Lowest
pub mod Sizes
pub mod Stages
pub mod Legal
pub mod Packets
pub mod Written
