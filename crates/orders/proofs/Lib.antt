pub mod Lawful
pub mod Ranked
