-- Operations, looked up in a history, and what one is to those before it.
pub mod History
pub mod Verdict
pub mod Counters
