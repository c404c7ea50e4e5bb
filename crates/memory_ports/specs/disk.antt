-- Specifications of disks in memory.
pub mod Kept
pub mod Picks
pub mod Forms
