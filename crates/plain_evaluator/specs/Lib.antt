pub mod Lasting
pub mod Onwards
