pub mod Held
pub mod Ring
pub mod Lines
pub mod Promises
