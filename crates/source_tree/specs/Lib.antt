pub mod Ends
pub mod Listing
pub mod Product
pub mod Searching
pub mod Taking
pub mod Telling
