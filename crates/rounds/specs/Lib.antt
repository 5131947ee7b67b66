pub mod Bound
pub mod Items
pub mod Refusals
pub mod Rounds
pub mod Checks
pub mod Laws
