use Rattle.std.proofs.Common.{◌≡◌, ◌++◌, take}
use Rattle.std.specs.List.{filter_map}
use Rattle.wide_search.specs.declared.lifts.Lift.{Lift}
use Rattle.end_log.specs.Moves.{came, final_one}
use Rattle.end_log.proofs.listing.list_came.Given as goal

-- what the elements so far give was added
abbrev pub invariant-loop-lift : goal.invariant-loop-lift
invariant-loop-lift l = l.moved.items
    ≡ l.initial.moved.items ++ filter_map (λ (each : Lift). final_one l.dfa (came each)) (take l.lift-index l.lifts)
