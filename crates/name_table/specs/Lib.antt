pub mod Keys
pub mod Names
pub mod Ranks
pub mod Table
