mod Apart
pub mod Held
pub mod LiveEdges
pub mod OneAnswer
pub mod Pairs
pub mod Places
pub mod Composing
pub mod Paths
pub mod Deadlines
pub mod OwnDeadlines
pub mod OneMore
pub mod Ends
pub mod Lasting
mod EndedAnswers
pub mod EachEntry
pub mod ByMembers
pub mod ByLabel
pub mod Closing
pub mod Merging
mod Sequences
pub mod ByCases
pub mod Answered
pub mod Ticks
pub mod Queries
pub mod AllEvents
mod Existence
pub mod Clocks
mod EndsOfInserts
