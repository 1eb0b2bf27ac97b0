pub mod Pieces
pub mod Places
pub mod Noted
pub mod Turns
pub mod Whole
pub mod Example
