mod Cutting
mod Enough
mod Example
mod Following
mod Forgetting
mod Keeping
pub mod PathFinding
mod Places
mod Raising
mod Simple
mod Telling
mod Visits
mod WindowPaths
