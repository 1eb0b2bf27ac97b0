pub mod Sums
pub mod Ranks
pub mod Keys
pub mod Parts
pub mod Fair
pub mod Steps
pub mod Judged
