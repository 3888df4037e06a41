mod Joined
mod Listed
mod Rows
pub mod Numbering
pub mod Order
pub mod Places
pub mod Runs
pub mod Walk
