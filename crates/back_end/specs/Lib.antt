pub mod Meaning
pub mod Calls
pub mod Laws
pub mod Kept
pub mod Largest
pub mod Votes
