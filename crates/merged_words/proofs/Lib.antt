pub mod ListLemmas
pub mod StayLemmas
pub mod PassageLemmas
pub mod MergeLemmas
pub mod DraftLemmas
pub mod LawLemmas
pub mod TypedLemmas
mod Examples
