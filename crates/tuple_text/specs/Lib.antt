pub mod Reading
pub mod Parts
pub mod Written
pub mod FaultTexts
