pub mod Places
pub mod Beside
pub mod Keeping
pub mod Noted
pub mod Few
pub mod Indexed
