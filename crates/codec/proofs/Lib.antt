pub mod Written
pub mod Read
pub mod Padded
pub mod Unique
