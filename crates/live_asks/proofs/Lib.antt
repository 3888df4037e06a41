pub mod AskEnds
mod Examples
mod LineAsks
mod Sessions
