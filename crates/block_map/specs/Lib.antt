pub mod Columns
pub mod Floors
pub mod Renames
pub mod Blocks
pub mod Contents
