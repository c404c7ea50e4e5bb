-- Lemmas on taking in.
pub mod AcceptedFrontLemmas
pub mod ClosureLawLemmas
pub mod ClosureLemmas
pub mod KeptLemmas
pub mod RebuiltLemmas
pub mod RefusedLemmas
pub mod RepeatLemmas
pub mod SelfNamedLemmas
pub mod SettlingLemmas
pub mod TakingLemmas
