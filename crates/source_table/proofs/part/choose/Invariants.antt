use Rattle.std.proofs.Common.{◌≡◌, take, filter_map}
use Rattle.source_table.specs.Places.{place_of}
use Rattle.source_table.proofs.part.choose.Given as goal

abbrev pub invariant-loop-root : goal.invariant-loop-root
invariant-loop-root l =
    l.chosen.items ≡ filter_map (place_of l.places.marks.items) (take l.root-index l.roots)
