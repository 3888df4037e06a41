pub mod Derived
pub mod Equality
pub mod InOrder
pub mod Leading
pub mod Members
mod Naming
pub mod Orders
pub mod Outcomes
pub mod OwnEnds
pub mod Places
pub mod Sorted
