-- what public contracts cite
pub mod Positions
pub mod Marked
pub mod Subset
pub mod FaultTexts
pub mod Laws
-- what the construction keeps inside
pub mod Construction
pub mod PositionSet
pub mod StateSets
