pub mod Digits
pub mod Names
pub mod Examples
pub mod Behind
