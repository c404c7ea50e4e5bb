-- Specifications of files that are read and written at offsets.
pub mod States
pub mod Moments
pub mod Laws
pub mod Disks
