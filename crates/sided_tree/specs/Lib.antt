pub mod EarlierSiblings
pub mod Nodes
pub mod Rows
pub mod Side
pub mod SlotKeys
