pub mod NodesLemmas
pub mod OneLemmas
pub mod OrderLemmas
pub mod RankLemmas
pub mod RightOriginLemmas
pub mod SlotLemmas
pub mod Words
