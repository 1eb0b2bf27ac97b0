pub mod Verdicts
pub mod Decoding
pub mod Asked
pub mod Marked
