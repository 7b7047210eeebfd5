mod Examples
pub mod ReadLaws
pub mod AnswerLaws
pub mod GrammarLaws
pub mod NodeLaws
pub mod FieldWords
