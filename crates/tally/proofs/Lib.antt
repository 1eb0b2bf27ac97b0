pub mod Telling
pub mod Finding
pub mod Backings
pub mod Polling
pub mod Listing
pub mod Ruling
pub mod Choosing
