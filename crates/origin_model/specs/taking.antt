-- Taking operations in.
pub mod Taking
pub mod Closure
pub mod Repeats
