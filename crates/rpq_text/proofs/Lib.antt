mod Pieces
mod EventLines
mod FaultExamples
mod StatusExamples
mod StartLines
mod Orders
mod VerdictExample
pub mod Texts
pub mod WordPieces
pub mod VerdictLines
pub mod BlockLists
