mod ByParts
mod ByLines
mod FaultCases
mod Longest
pub mod ByteLimits
pub mod Fronts
pub mod StreamTexts
pub mod TupleLines
pub mod Reading
pub mod Reporting
