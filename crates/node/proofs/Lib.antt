pub mod Histories
pub mod Facts
pub mod StartLaws
pub mod Coming
pub mod SendLaws
pub mod Lengths
pub mod ReadBack
