pub mod Alike
pub mod Outcomes
pub mod BothWays
mod Examples
