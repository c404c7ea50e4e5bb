pub mod Comments
pub mod Margins
pub mod Laws
pub mod Commenting
pub mod Listing
pub mod Placing
