pub mod Decimals
pub mod Puts
pub mod Printing
pub mod Sewing
pub mod Rows
pub mod Paging
