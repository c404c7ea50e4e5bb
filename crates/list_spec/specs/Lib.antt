pub mod Worlds
pub mod StrongList
pub mod Calls
pub mod Agreement
