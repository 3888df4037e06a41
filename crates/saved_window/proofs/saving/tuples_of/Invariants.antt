use Rattle.std.proofs.Common.{◌≡◌, map, take}
use Rattle.rpq_model.specs.Live.{placed_entry}
use Rattle.saved_window.specs.Reach.{tuples_of}
use Rattle.saved_window.proofs.saving.tuples_of.Given as goal

-- the tuples of the live entries so far
abbrev pub invariant-loop-each : goal.invariant-loop-each
invariant-loop-each l = l.tuples.items ≡ tuples_of (map placed_entry (take l.each-index l.live))
