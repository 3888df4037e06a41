pub mod DfaValue
pub mod Befores
pub mod Table
pub mod Runs
pub mod Order
pub mod Laws
pub mod Discovery
pub mod FaultTexts
