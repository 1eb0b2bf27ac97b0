pub mod Parts
pub mod Acceptance
pub mod Thresholds
pub mod Group
pub mod Promises
