pub mod Mapping
pub mod Reading
pub mod ReadSound
pub mod LineShape
pub mod LineParts
mod ByParts
mod Examples
mod SomeVariable
