pub mod Stores
pub mod RoundTrip
