pub mod Answer
pub mod FixedAnswer
