pub mod Arranging
pub mod Examples
pub mod Modes
pub mod Pairs
pub mod Parsing
