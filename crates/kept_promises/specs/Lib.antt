pub mod Keeping
pub mod Views
pub mod Certificates
pub mod Revisions
