pub mod Answers
pub mod RoundOut
pub mod CallOrder
pub mod Numbers
