pub mod InnerRows
pub mod Call
