pub mod Alike
pub mod Examples
pub mod Laws
