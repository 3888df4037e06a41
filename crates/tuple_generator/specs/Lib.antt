pub mod Examples
pub mod Generator
pub mod Laws
pub mod Seeds
