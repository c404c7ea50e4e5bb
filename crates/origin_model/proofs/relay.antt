-- Lemmas on the relay.
pub mod OneOutcomeLemmas
pub mod TextLemmas
pub mod RunLemmas
pub mod PartsLemmas
pub mod RelayExamples
