pub mod Tests
pub mod Outcomes
pub mod Numbers
pub mod Stores
pub mod Arrays
pub mod Tables
pub mod Marks
