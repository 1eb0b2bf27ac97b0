pub mod Counts
pub mod Digits
pub mod Spills
pub mod Rings
pub mod Newest
pub mod Holding
pub mod Laying
pub mod Output
