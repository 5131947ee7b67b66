pub mod Rule
pub mod State
pub mod Means
pub mod Namers
pub mod Shown
pub mod Agreement
