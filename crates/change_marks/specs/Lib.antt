pub mod Stretches
pub mod Marks
pub mod Changes
pub mod Authors
pub mod Steps
pub mod Laws
