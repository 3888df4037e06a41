mod Losing
mod Holding
mod Terms
mod Extending
mod Closed
mod Telling
pub mod Ordering
pub mod Changing
pub mod Differing
pub mod Finding
pub mod Vertices
pub mod Rowing
pub mod Sharing
pub mod Narrowing
pub mod Turning
mod Histories
mod TextExamples
mod BindingExamples
mod Leading
mod Candidates
mod Deciding
mod HaveJoinEvents
