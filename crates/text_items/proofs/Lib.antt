mod ByParts
mod Longest
pub mod Reading
mod Steps
pub mod Texts
mod Worked
