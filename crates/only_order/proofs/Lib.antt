pub mod PartedLemmas
pub mod HeldLemmas
pub mod RelationLemmas
pub mod OutcomeLemmas
pub mod ListedLemmas
pub mod OriginLemmas
pub mod AlikeLemmas
pub mod TextOrderLemmas
mod NeededExamples
