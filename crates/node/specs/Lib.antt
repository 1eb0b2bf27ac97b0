pub mod Record
pub mod Place
pub mod Soundness
pub mod Starting
pub mod Sending
pub mod Promises
