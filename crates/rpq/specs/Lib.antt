pub mod Outlets
pub mod Program
