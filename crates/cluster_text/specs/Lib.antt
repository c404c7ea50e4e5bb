pub mod Clusters
pub mod Boundaries
pub mod Endings
pub mod Cuts
pub mod Parts
pub mod Trees
