use Rattle.std.proofs.Common.{◌≡◌, ◌++◌, take}
use Rattle.std.specs.List.{filter_map}
use Rattle.wide_search.specs.declared.lifts.Lift.{Lift}
use Rattle.source_tree.specs.declared.change.Outcome.TheVariants.{Gained}
use Rattle.end_log.specs.Moves.{came, end_with}
use Rattle.end_log.proofs.listing.log_came.Given as goal

-- what the elements so far give was added
abbrev pub invariant-loop-lift : goal.invariant-loop-lift
invariant-loop-lift l = l.log.items
    ≡ l.initial.log.items ++ filter_map (λ (each : Lift). end_with l.state Gained (came each)) (take l.lift-index l.lifts)
