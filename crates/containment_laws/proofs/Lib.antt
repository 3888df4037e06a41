mod Accepted
pub mod Agreeing
mod Chains
mod Shortened
mod Distinct
mod Missed
mod Spelled
mod Turning
