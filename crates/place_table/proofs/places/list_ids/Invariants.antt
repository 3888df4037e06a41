use Rattle.std.proofs.Common.{◌≡◌, ◌++◌, take}
use Rattle.std.specs.Map.{keys_of}
use Rattle.place_table.specs.Kept.{kept_nodes}
use Rattle.place_table.proofs.places.list_ids.Given as goal

-- the places so far at which the root has a node
abbrev pub invariant-loop-k : goal.invariant-loop-k
invariant-loop-k l = l.ids.items
    ≡ l.initial.ids.items ++ keys_of (kept_nodes (take l.k l.places) l.root)
