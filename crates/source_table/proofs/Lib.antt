pub mod Lists
pub mod Placed
pub mod Moved
pub mod Chosen
pub mod Tried
