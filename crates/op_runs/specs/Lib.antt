pub mod Deletions
pub mod Parts
pub mod Growing
pub mod Finding
pub mod Slices
pub mod CommonPrefix
pub mod Entries
