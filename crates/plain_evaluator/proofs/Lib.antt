mod EachOnce
mod Horizons
mod Onwards
pub mod SideBySide
mod Targets
