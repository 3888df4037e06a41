pub mod Log
pub mod Moves
pub mod Runs
