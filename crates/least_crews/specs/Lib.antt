pub mod Search
pub mod Entries
