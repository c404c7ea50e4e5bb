-- The order of a place, and what is shown and printed of it.
pub mod Order
pub mod Printed
pub mod Laws
pub mod Chain
pub mod Fork
pub mod Listed
