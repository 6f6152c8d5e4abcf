pub mod Examples
pub mod Queries
pub mod Entries
pub mod Counts
pub mod Walks
pub mod Addenda
