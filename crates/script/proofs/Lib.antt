pub mod Walk
pub mod Words
pub mod Cases
pub mod Fields
