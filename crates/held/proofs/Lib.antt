pub mod Sums
pub mod Valued
pub mod Worths
pub mod Refusals
pub mod HeldExamples
