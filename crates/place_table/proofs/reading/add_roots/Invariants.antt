use Rattle.std.proofs.Common.{◌≡◌, ◌++◌, take}
use Rattle.std.specs.List.{filter_map}
use Rattle.place_table.specs.Reading.{root_by}
use Rattle.place_table.proofs.reading.add_roots.Given as goal

-- the roots of the entries so far were added
abbrev pub invariant-loop-k : goal.invariant-loop-k
invariant-loop-k l = l.roots.items
    ≡ l.initial.roots.items ++ filter_map (root_by l.edge l.place.id) (take l.k l.place.nodes)
