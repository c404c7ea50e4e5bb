pub mod PlaceLemmas
pub mod SpanLemmas
pub mod FirstLemmas
pub mod StepLemmas
