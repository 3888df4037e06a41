pub mod Cuts
pub mod Digits
pub mod FieldLaws
mod FirstPart
pub mod LineByLine
pub mod LineEnds
mod LineLaws
pub mod LineLengths
pub mod Pieces
