pub mod Rounds
pub mod Between
