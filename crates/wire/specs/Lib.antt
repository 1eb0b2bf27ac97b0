pub mod Outcome
pub mod Entry
pub mod Sizes
pub mod Bytes
pub mod Plan
pub mod Below
pub mod Marks
