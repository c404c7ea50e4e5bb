-- Edits: which are refused, which operations the others make, where those land, and what they change.
pub mod Landing
pub mod Edits
pub mod RunLaws
pub mod State
pub mod Refusal
pub mod Effect
pub mod Noting
pub mod Passages
