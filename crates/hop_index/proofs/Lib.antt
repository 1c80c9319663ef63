pub mod Marks
pub mod Searches
pub mod Walks
pub mod Groups
pub mod Divisions
