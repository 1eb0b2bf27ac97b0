pub mod Lines
pub mod Run
pub mod Stepping
pub mod Promises
