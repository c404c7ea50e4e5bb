mod Examples
pub mod RunLemmas
pub mod PassageLemmas
pub mod KeyLemmas
pub mod LongestLemmas
pub mod LaterLemmas
pub mod LawLemmas
pub mod CountLemmas
pub mod WalkLemmas
pub mod WritingLemmas
