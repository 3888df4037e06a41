use Rattle.std.proofs.Common.{◌≡◌, ◌++◌, take}
use Rattle.std.specs.List.{filter_map}
use Rattle.place_table.specs.Reading.{gain_of}
use Rattle.place_table.proofs.reading.add_gains.Given as goal

-- the gains of the entries so far were added
abbrev pub invariant-loop-k : goal.invariant-loop-k
invariant-loop-k l = l.gains.items
    ≡ l.initial.gains.items ++ filter_map (gain_of l.above l.most) (take l.k l.place.nodes)
