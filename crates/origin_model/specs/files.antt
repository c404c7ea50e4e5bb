-- The file of a replica.
pub mod Image
