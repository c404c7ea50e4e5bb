-- Lemmas on operations, look-ups and verdicts.
pub mod CauseLemmas
pub mod ElementLemmas
pub mod FoundedLemmas
pub mod LookupLemmas
pub mod OneLookUpLemmas
pub mod OwnIdLemmas
