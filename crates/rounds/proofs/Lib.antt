pub mod Fill
pub mod Accepted
