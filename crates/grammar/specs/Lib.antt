pub mod Tokens
pub mod InnerKinds
pub mod Grammar
pub mod Reading
pub mod Answer
