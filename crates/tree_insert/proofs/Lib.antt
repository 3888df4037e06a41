pub mod Bests
pub mod Members
mod Tries
pub mod Nodes
mod UnderWay
mod Outs
mod Shifts
pub mod OpenTries
pub mod Paths
pub mod SameEdges
pub mod Optimal
pub mod Expiry
mod States
