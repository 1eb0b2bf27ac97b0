pub mod Sizes
pub mod EncodeLaws
pub mod EntryLaws
pub mod ReadLaws
pub mod LayLaws
pub mod ExpectedLaws
pub mod Zeros
