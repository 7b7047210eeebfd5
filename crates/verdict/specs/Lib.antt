pub mod InnerEnding
pub mod Verdicts
