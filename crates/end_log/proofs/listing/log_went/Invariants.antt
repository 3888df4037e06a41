use Rattle.std.proofs.Common.{◌≡◌, ◌++◌, take}
use Rattle.std.specs.List.{filter_map}
use Rattle.place_table.specs.declared.gain.Lost.{Lost as Gone}
use Rattle.source_tree.specs.declared.change.Outcome.TheVariants.{Lost}
use Rattle.end_log.specs.Moves.{end_with, went}
use Rattle.end_log.proofs.listing.log_went.Given as goal

-- what the elements so far give was added
abbrev pub invariant-loop-lost : goal.invariant-loop-lost
invariant-loop-lost l = l.log.items
    ≡ l.initial.log.items ++ filter_map (λ (each : Gone). end_with l.state Lost (went each)) (take l.lost-index l.gone)
