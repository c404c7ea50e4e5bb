pub mod ChangeLemmas
pub mod ColumnLemmas
pub mod CounterLemmas
pub mod FloorLemmas
pub mod OrderLemmas
pub mod RenameLemmas
