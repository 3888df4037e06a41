pub mod LineLaws
pub mod Lines
pub mod AllPasses
pub mod Views
pub mod Deals
pub mod Joins
pub mod Moves
pub mod Seats
