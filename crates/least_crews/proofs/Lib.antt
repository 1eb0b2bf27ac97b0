pub mod Ranges
pub mod Found
pub mod Forms
pub mod Entries
