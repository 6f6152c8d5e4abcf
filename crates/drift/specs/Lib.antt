pub mod Rows
pub mod Symbols
pub mod Entry
pub mod Report
pub mod Code
