mod Examples
mod NoteExamples
mod Words
mod frames
pub mod SharedLemmas
pub mod edits
