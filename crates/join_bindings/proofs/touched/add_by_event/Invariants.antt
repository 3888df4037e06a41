use Rattle.std.specs.Prelude.{◌↔◌, ◌⊎◌, Contains, List, ℕ}
use Rattle.std.proofs.Common.{take}
use Rattle.join_bindings.specs.Touched.{IsThroughEvent}
use Rattle.join_bindings.proofs.touched.add_by_event.Given as goal

-- those by the atoms so far are added
abbrev pub invariant-loop-atom : goal.invariant-loop-atom
invariant-loop-atom l =
    (names : List (List ℕ)) → Contains l.found.items names ↔ (Contains l.fn.found.items names ⊎ IsThroughEvent l.sets l.def (take l.atom-index l.atom-items) l.event names)
