pub mod WordLaws
pub mod TokenLaws
pub mod TokensLeft
