pub mod Versions
pub mod Views
pub mod Accepting
pub mod Fronts
pub mod Laws
pub mod Naming
