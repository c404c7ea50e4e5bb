-- Specifications of connections.
pub mod Streams
pub mod Wires
