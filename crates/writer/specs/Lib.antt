pub mod Writing
pub mod Promises
