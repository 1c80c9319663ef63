pub mod Ranges
pub mod Indexes
pub mod InnerRanges
pub mod InnerNodes
