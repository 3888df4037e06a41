use Rattle.std.proofs.Common.{◌≡◌, ◌++◌, ◌⊎◌, length}
use Rattle.std.specs.Prelude.{◌↔◌, Contains}
use Rattle.std.specs.Vec.Iter.{into_iter_items, into_iter_len}
use Rattle.join_bindings.specs.declared.event.JoinEvent.{JoinEvent}
use Rattle.join_bindings.proofs.Finding.{IsOf}
use Rattle.join_bindings.proofs.found.add_bindings.Given as goal

-- those so far are added
abbrev pub invariant-loop-binding : goal.invariant-loop-binding
invariant-loop-binding l = (l.yielded ++ into_iter_items l.binding-iterator ≡ into_iter_items l.initial.binding-iterator)
    × ((each : JoinEvent) → Contains l.found.items each ↔ (Contains l.fn.found.items each ⊎ IsOf l.join l.added l.yielded each))
    × (into_iter_len l.binding-iterator ≡ length (into_iter_items l.binding-iterator))
