pub mod Changes
pub mod Dues
pub mod Laws
pub mod Losses
pub mod Nodes
pub mod Paths
pub mod Spots
pub mod Stamps
