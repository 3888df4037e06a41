pub mod Sources
pub mod Sinks
pub mod Loop
pub mod Telling
