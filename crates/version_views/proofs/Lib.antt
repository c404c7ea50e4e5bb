mod Words
mod Examples
pub mod ViewLemmas
pub mod VersionLemmas
pub mod GivenLemmas
pub mod NamingLemmas
pub mod LineLemmas
pub mod AcceptingLemmas
pub mod FrontMakingLemmas
