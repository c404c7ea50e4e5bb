-- Lemmas on the bytes of files.
pub mod BatchLemmas
pub mod ImageLemmas
pub mod WalkLemmas
pub mod AppendLemmas
pub mod FileExamples
