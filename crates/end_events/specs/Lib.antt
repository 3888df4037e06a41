pub mod Changes
pub mod Named
pub mod EntryEvents
pub mod Order
pub mod Pairs
