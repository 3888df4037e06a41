pub mod Entries
mod Placed
