pub mod Rule
pub mod State
pub mod Means
pub mod Keeps
