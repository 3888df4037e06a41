pub mod Examples
pub mod History
pub mod Names
pub mod Seeds
