pub mod Answers
pub mod BySource
pub mod Changes
pub mod Laws
pub mod Listing
pub mod RowChanges
pub mod RowEdits
