mod BestEntries
mod CutTrees
mod Finding
mod FromNodes
mod Told
