pub mod Bound
pub mod Later
pub mod Presses
pub mod Laws
pub mod Steps
pub mod Shows
pub mod Calls
