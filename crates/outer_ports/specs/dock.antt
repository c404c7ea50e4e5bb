-- Specifications of listeners.
pub mod Steps
pub mod Docks
pub mod Streams
