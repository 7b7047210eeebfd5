pub mod Bits
pub mod InnerMembers
