pub mod Numerals
pub mod PrintLaws
