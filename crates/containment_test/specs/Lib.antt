pub mod Containment
pub mod Verdict
pub mod Needed
pub mod Laws
