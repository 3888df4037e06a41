use Rattle.std.specs.Prelude.{◌↔◌, Contains, List, ℕ}
use Rattle.std.proofs.Common.{take}
use Rattle.join_bindings.specs.Touched.{IsThroughKind}
use Rattle.join_bindings.proofs.touched.touched.Given as goal

-- those by the events so far
abbrev pub invariant-loop-event : goal.invariant-loop-event
invariant-loop-event l = (names : List (List ℕ)) → Contains l.found.items names ↔ IsThroughKind l.sets l.def l.added (take l.event-index l.events) names
