pub mod Stops
pub mod Through
