pub mod LogLemmas
pub mod SessionLemmas
pub mod JoiningLemmas
pub mod OpLogLemmas
pub mod TakingLemmas
pub mod PieceLemmas
pub mod KindLemmas
pub mod TextLemmas
pub mod SessionTextLemmas
pub mod StoryLemmas
pub mod TellingLemmas
mod TextExamples
