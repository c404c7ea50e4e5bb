pub mod Matching
pub mod Completing
pub mod Rises
pub mod Orders
pub mod Likeness
pub mod Alike
pub mod Hashes
