pub mod RoundAnswer
