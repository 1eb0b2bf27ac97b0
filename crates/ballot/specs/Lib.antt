pub mod Count
pub mod Ballot
pub mod Least
pub mod Selection
pub mod Turns
pub mod Validation
pub mod Decision
pub mod Promises
