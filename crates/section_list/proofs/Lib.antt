pub mod GrowthLemmas
pub mod KeptLemmas
pub mod ShownLemmas
