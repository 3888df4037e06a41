pub mod TellingMore
pub mod MoreSteps
mod Rebuilt
mod Taking
