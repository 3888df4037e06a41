pub mod Below
pub mod Entries
pub mod Removal
pub mod Laws
