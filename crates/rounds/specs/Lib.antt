pub mod Taking
pub mod Asking
pub mod Marking
pub mod Steps
