mod Batches
mod Begun
mod Counts
pub mod Ended
mod Following
mod Lifted
mod Pending
pub mod Searching
mod Spans
mod Tables
