pub mod DeletionLemmas
pub mod PartLemmas
pub mod PushLemmas
pub mod FindLemmas
pub mod SliceLemmas
pub mod PopLemmas
pub mod RepeatLemmas
pub mod EntryLemmas
