pub mod Changes
pub mod Contents
pub mod Manuscript
pub mod Place
pub mod Section
