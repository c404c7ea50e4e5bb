pub mod OperationLemmas
pub mod CommentPartLemmas
pub mod CommentSetLemmas
pub mod SectionLemmas
pub mod ClaimPartLemmas
pub mod WinnerLemmas
pub mod ArrangementLemmas
mod PremiseExamples
