pub mod Limits
pub mod Faults
pub mod StreamText
pub mod History
pub mod Ends
pub mod Progress
pub mod Laws
pub mod FaultLaws
