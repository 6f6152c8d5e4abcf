pub mod Result
pub mod Text
pub mod Reply
pub mod Lent
