pub mod Steps
pub mod Joining
pub mod Showing
pub mod Telling
pub mod Evaluator
pub mod Laws
