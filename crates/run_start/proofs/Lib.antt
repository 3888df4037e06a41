pub mod AskReaders
pub mod Modes
pub mod Using
pub mod Opening
pub mod SinkSteps
mod OrderOfFiles
