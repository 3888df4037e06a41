pub mod Hearing
pub mod HavingStood
mod Outcomes
mod Parting
mod Places
mod Telling
mod Zips
