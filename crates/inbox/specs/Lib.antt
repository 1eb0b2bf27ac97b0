pub mod Inbox
pub mod Columns
