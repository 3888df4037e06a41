pub mod Items
pub mod Answers
pub mod Ends
pub mod Readers
pub mod Progress
pub mod Examples
pub mod Laws
