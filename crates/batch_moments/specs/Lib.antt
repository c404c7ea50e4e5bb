pub mod Counts
pub mod Lines
pub mod Steps
pub mod Laws
