mod Appending
mod Taken
mod Streaming
mod Inputs
pub mod Seen
pub mod Numbering
pub mod Replying
mod Serving
mod Live
mod ReaderWorks
mod Crossing
