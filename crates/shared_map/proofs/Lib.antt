mod Entries
pub mod Order
mod Search
mod Listed
mod Outcomes
