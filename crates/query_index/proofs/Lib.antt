pub mod Outcomes
mod Telling
mod Untouched
mod Bare
mod Small
mod Stepping
pub mod Kept
mod Answered
mod Choosing
mod Rows
mod Shown
mod Flagged
mod Starting
pub mod Still
mod BestPaths
