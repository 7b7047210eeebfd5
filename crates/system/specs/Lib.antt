pub mod System
pub mod InnerWords
pub mod RowOrder
pub mod InnerTables
