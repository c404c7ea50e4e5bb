-- Specifications of wires in memory.
pub mod Forms
