pub mod Round
pub mod Start
pub mod Promises
