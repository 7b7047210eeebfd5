pub mod PartLaws
pub mod NodeLaws
pub mod NameLaws
pub mod PlaceLaws
pub mod Filling
pub mod FieldLaws
pub mod ListLaws
