pub mod LineLaws
pub mod SizeLaws
pub mod PartLaws
pub mod EntryLaws
pub mod CellLaws
pub mod TableLaws
pub mod AskedLaws
pub mod Examples
