pub mod Changed
mod Columns
pub mod Edited
pub mod Ends
pub mod Held
mod Leading
pub mod Listed
mod Lookups
pub mod Places
pub mod Sources
mod Told
