-- On frames.
pub mod SingleLemmas
pub mod ItemLemmas
pub mod TypedLemmas
pub mod FramingLemmas
pub mod JoinLemmas
pub mod LengthLemmas
pub mod VersionLemmas
