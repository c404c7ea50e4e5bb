-- The tree of sides, by which the order of a place is found.
pub mod Slot
pub mod Node
pub mod Detached
pub mod Walk
pub mod Keys
pub mod KeyedGap
pub mod KeyLaws
