pub mod Digits
pub mod Trailing
pub mod Loops
pub mod Words
pub mod Walk
pub mod Masks
