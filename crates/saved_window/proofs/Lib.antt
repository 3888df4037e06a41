mod Behind
mod Clocks
mod Continues
mod Example
mod Few
mod Kept
mod More
pub mod Plain
mod Reaching
mod Texts
