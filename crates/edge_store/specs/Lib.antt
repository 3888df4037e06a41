pub mod Blocks
pub mod Dues
pub mod Edges
pub mod Row
pub mod Rows
