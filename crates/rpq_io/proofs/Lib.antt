pub mod Bytes
pub mod Counting
mod CutLines
mod Finding
mod FoundLines
mod HeldParts
mod LongLines
mod Names
mod PassedLines
mod ReaderSteps
mod TextAhead
