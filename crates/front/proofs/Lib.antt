pub mod Filled
pub mod Searches
pub mod Steps
pub mod NewEstimates
pub mod Eliminated
pub mod Outcomes
pub mod HandOver
pub mod OnTime
