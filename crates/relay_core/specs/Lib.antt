pub mod Greetings
pub mod Logs
pub mod Joins
pub mod Sessions
pub mod Relays
pub mod Texts
pub mod OpLogs
pub mod Laws
