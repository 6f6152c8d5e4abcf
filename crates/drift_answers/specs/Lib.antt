pub mod DriftAnswer
