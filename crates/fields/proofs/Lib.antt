pub mod NameLaws
pub mod TableLaws
pub mod HeldLaws
pub mod CauseLaws
pub mod WordLaws
pub mod JointLaws
pub mod Examples
