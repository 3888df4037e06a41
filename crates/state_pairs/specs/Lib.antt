pub mod Goals
pub mod Sources
pub mod Rounds
pub mod Pairs
pub mod PairGraph
pub mod Laws
