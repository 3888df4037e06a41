pub mod Saved
pub mod Reach
pub mod Continues
pub mod Example
pub mod Then
pub mod SavedText
pub mod Alike
