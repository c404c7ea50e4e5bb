pub mod ServingLemmas
pub mod SendingLemmas
pub mod OverLemmas
pub mod CountLemmas
pub mod HearingLemmas
pub mod SayingLemmas
pub mod SyncingLemmas
pub mod OutcomeLemmas
pub mod HeardLemmas
pub mod WholeLemmas
pub mod TwoEndsLemmas
pub mod SentLemmas
pub mod ExchangeLemmas
mod ExchangeExamples
