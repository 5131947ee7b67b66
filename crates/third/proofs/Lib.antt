pub mod Choice
pub mod Round
pub mod Advance
