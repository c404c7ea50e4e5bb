-- Specifications of docks in memory.
pub mod Arrivals
pub mod Transcripts
pub mod Forms
