pub mod Lowest
pub mod Counting
pub mod Digits
pub mod SetOf
pub mod Everywhere
