pub mod Given
pub mod Files
pub mod Readers
pub mod Start
pub mod Ready
pub mod Steps
pub mod Laws
pub mod Texts
