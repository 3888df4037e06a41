use Rattle.std.proofs.Common.{take}
use Rattle.small_map.specs.Places.{ArePlaced}
use Rattle.small_map.proofs.places.places_of.Given as goal

-- the first of the entries have their places
abbrev pub invariant-loop-place : goal.invariant-loop-place
invariant-loop-place g l =
    ArePlaced g.K.PartialEq.eq (take l.place l.entries) l.places.entries
