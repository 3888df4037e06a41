pub mod Summary
pub mod Totals
pub mod Made
pub mod Counts
pub mod Generates
pub mod Laws
