pub mod KeyLemmas
pub mod PairLemmas
pub mod RiseLemmas
pub mod ChosenLemmas
pub mod OrderLemmas
pub mod LikenessLemmas
pub mod AlikeLemmas
pub mod HashLemmas
