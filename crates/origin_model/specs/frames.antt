-- The bytes of operations.
pub mod Frames
pub mod Framings
pub mod Joins
