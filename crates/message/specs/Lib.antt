pub mod Layout
pub mod Fields
pub mod Bounds
pub mod Encoding
pub mod Reading
pub mod Laying
pub mod Promises
