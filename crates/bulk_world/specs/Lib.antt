pub mod Edit
pub mod Generator
pub mod Turns
pub mod Summary
pub mod Laws
pub mod Deliveries
