pub mod Ids
pub mod Trees
pub mod Ways
mod Below
mod Expiry
mod Joined
mod Links
mod Queue
mod TreeLaws
