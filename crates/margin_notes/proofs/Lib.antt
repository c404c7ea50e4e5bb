mod Words
mod Examples
pub mod CommentedLemmas
pub mod CountLemmas
pub mod EntryLemmas
pub mod FilterLemmas
pub mod KeptLemmas
pub mod ListedLemmas
pub mod MemberLemmas
pub mod PassageLemmas
pub mod PlaceLemmas
pub mod RefusalLemmas
pub mod SortLemmas
pub mod SortedLemmas
pub mod SpanLemmas
pub mod WalkedLemmas
