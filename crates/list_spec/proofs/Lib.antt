pub mod DeliveryLemmas
pub mod PoolLemmas
pub mod EffectLemmas
pub mod WorldLemmas
pub mod CallLemmas
pub mod ListLawLemmas
pub mod AgreementLemmas
mod Examples
mod NotingExamples
mod PassageExamples
mod PremiseExamples
