pub mod Intents
pub mod Turns
