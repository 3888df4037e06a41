pub mod Batches
pub mod Counts
pub mod Lifts
pub mod Ready
pub mod Searching
pub mod Shares
pub mod Spans
pub mod Widths
