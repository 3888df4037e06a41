-- A doubled history, and the net of two lists of events, by some values.
use Rattle.std.specs.Prelude.{◌≡◌, false, true, [], ◌∷◌, codes, Some}
use Rattle.rpq_base.specs.declared.data.Act.{Act}
use Rattle.rpq_base.specs.declared.data.Act.TheVariants.{Insert, Delete, Tick}
use Rattle.rpq_base.specs.declared.data.Entry.{Entry}
use Rattle.rpq_base.specs.declared.data.Edge.{Edge}
use Rattle.rpq_base.specs.declared.data.Pair.{Pair}
use Rattle.rpq_model.specs.Events.{event}
use Rattle.rpq_model.specs.Relations.{between}
use Rattle.two_way.specs.Doubled.{doubled}
use Rattle.two_way.specs.Net.{AreNet}

-- the entry of the first stream with this act at the time 8
abbrev pub at_eight : Act → Entry
at_eight act = record { stream = 1; tuple = record { time = 8; act = act } }

-- the edge from x to y by the label a
abbrev pub forward : Edge
forward = record {
  from = codes "x";
  label = record { name = codes "a"; back = false };
  to = codes "y";
}

-- the edge from y to x by the inverse of a
abbrev pub backward : Edge
backward = record {
  from = codes "y";
  label = record { name = codes "a"; back = true };
  to = codes "x";
}

-- the pairs from x to y and from x to z
abbrev pub to_y : Pair
to_y = between (codes "x") (codes "y")

abbrev pub to_z : Pair
to_z = between (codes "x") (codes "z")

-- an insert with an end of its own, a tick and a delete; then two lists of events, where the second
-- takes back what the first added, and loses a pair of an earlier query than the first
pub record TwoWayExamples : Type 0 where
  pub of_history :
      doubled (at_eight (Insert forward (Some 9)) ∷ at_eight Tick ∷ at_eight (Delete forward) ∷ [])
      ≡ at_eight (Insert forward (Some 9)) ∷ at_eight (Insert backward (Some 9))
      ∷ at_eight Tick ∷ at_eight (Delete forward) ∷ at_eight (Delete backward) ∷ []
  pub of_events :
      AreNet (event 0 true to_z ∷ event 1 false to_y ∷ [])
      (event 0 false to_y ∷ event 0 false to_z ∷ [])
      (event 0 false to_y ∷ event 1 false to_y ∷ [])
