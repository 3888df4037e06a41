pub mod Limits
pub mod Reading
pub mod Items
pub mod Taken
pub mod Progress
pub mod Examples
pub mod Laws
