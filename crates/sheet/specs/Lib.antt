pub mod Wait
pub mod Bound
pub mod Lines
pub mod Printing
