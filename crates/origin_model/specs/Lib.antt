pub mod operations
pub mod order
pub mod frames
pub mod taking
pub mod sides
pub mod edits
pub mod files
pub mod relay
