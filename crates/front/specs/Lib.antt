pub mod Consoles
pub mod Searches
pub mod Halting
pub mod Deciding
pub mod Runs
pub mod Laws
