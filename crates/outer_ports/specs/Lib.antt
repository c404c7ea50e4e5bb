pub mod Sources
pub mod Calls
pub mod Counts
pub mod Latest
pub mod Forms
pub mod disk
pub mod dock
pub mod wire
