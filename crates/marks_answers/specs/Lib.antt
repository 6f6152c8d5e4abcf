pub mod LentMarks
pub mod StateAnswer
pub mod IntentsAnswer
