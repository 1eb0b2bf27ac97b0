pub mod Tables
pub mod Slots
pub mod Records
pub mod Going
pub mod Results
