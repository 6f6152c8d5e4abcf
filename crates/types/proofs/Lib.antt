pub mod Signs
pub mod Away
pub mod Steps
pub mod OrderExamples
