pub mod Sums
pub mod Shares
pub mod Fair
pub mod Promises
