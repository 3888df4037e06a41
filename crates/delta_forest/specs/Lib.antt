pub mod Forest
pub mod Changes
pub mod Paths
pub mod Laws
pub mod Keeping
pub mod Candidates
pub mod Settling
