pub mod Forms
pub mod disk
pub mod dock
pub mod wire
