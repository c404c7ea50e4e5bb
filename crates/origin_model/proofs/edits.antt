-- Lemmas on edits, on their refusals, and on how concurrent insertions stand.
pub mod SplitLemmas
pub mod LandsBehindLemmas
pub mod LandsBehindLeafLemmas
pub mod FreshIdLemmas
pub mod PutLemmas
pub mod CutLemmas
pub mod UndecidedLemmas
pub mod MadeLemmas
pub mod EditedTextLemmas
pub mod NextCounterLemmas
pub mod EditIntakeLemmas
pub mod RunLemmas
pub mod RefusalLemmas
pub mod NotedLemmas
pub mod EditExamples
pub mod PassageLemmas
pub mod AllowedLemmas
