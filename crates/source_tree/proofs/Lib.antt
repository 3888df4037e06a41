pub mod Outcomes
pub mod Telling
pub mod Shifts
pub mod Moves
pub mod Covering
pub mod Standing
pub mod Listing
pub mod Changing
pub mod Finals
mod OwnStates
