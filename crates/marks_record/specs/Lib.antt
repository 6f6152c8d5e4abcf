pub mod MarksRecord
