pub mod Selections
pub mod Searches
pub mod Walks
