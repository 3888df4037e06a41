use Rattle.std.proofs.Common.{◌≡◌, drop, slice_get}
use Rattle.std.specs.Map.{keys_of}
use Rattle.place_table.specs.Kept.{kept_nodes}
use Rattle.place_table.proofs.places.id_behind.Given as goal

-- the node that is looked for comes behind so many others of the places that are left
abbrev pub invariant-loop-place : goal.invariant-loop-place
invariant-loop-place l =
    slice_get (keys_of (kept_nodes (drop l.place-index l.places) l.root)) l.left
    ≡ slice_get (keys_of (kept_nodes l.places l.root)) l.others
