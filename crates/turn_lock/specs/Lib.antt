pub mod Laws
pub mod Lines
pub mod Passes
pub mod Seats
pub mod Steps
pub mod Turn
