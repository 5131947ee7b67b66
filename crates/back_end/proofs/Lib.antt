pub mod Most
pub mod Ballots
pub mod Next
