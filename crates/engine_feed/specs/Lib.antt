pub mod EventLists
pub mod Feeding
