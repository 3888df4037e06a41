pub mod EndedLines
pub mod FaultTexts
pub mod Fields
pub mod Lines
pub mod Numbers
pub mod Reading
