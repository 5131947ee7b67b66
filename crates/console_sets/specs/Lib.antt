pub mod Bound
pub mod Calls
pub mod Sets
pub mod Laws
