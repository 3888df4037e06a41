use Rattle.std.proofs.Common.{◌<◌, ◌⊎◌}
use Rattle.std.specs.Prelude.{◌↔◌, Contains}
use Rattle.join_bindings.specs.declared.event.JoinEvent.{JoinEvent}
use Rattle.join_bindings.specs.Changed.{IsFound}
use Rattle.join_bindings.proofs.found.add_found.Given as goal

-- what the joins so far gain or lose is added
abbrev pub invariant-loop-join : goal.invariant-loop-join
invariant-loop-join l = (each : JoinEvent) → Contains l.found.items each
    ↔ (Contains l.fn.found.items each ⊎ ((each.join < l.join) × IsFound l.sets l.defs l.added l.events each))
