pub mod Same
pub mod Tables
pub mod Examples
