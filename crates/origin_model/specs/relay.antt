-- The relay.
pub mod Session
pub mod Relay
