pub mod Namers
pub mod Row
pub mod Cases
pub mod Invariant
pub mod Round
pub mod Steady
pub mod Keeps
