use Rattle.std.proofs.Common.{◌≡◌, ◌++◌, take}
use Rattle.std.specs.List.{filter_map}
use Rattle.place_table.specs.declared.gain.Lost.{Lost as Gone}
use Rattle.end_log.specs.Moves.{final_one, went}
use Rattle.end_log.proofs.listing.list_went.Given as goal

-- what the elements so far give was added
abbrev pub invariant-loop-lost : goal.invariant-loop-lost
invariant-loop-lost l = l.moved.items
    ≡ l.initial.moved.items ++ filter_map (λ (each : Gone). final_one l.dfa (went each)) (take l.lost-index l.gone)
