pub mod Lowest
pub mod Refusals
pub mod Sizes
pub mod Packets
pub mod Written
