pub mod Differences
pub mod Doubled
pub mod Examples
pub mod Laws
pub mod Net
pub mod TwoWay
