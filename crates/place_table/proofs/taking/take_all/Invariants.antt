use Rattle.std.proofs.Common.{◌≡◌}
use Rattle.place_table.specs.Links.{KeepsKept, placed_ids}
use Rattle.place_table.proofs.Taken.{StandFrom}
use Rattle.place_table.proofs.taking.take_all.Given as goal

-- the root's nodes at the first of the places are out
abbrev pub invariant-loop-number : goal.invariant-loop-number
invariant-loop-number l = record {
  stand : StandFrom l.places l.root l.number;
  ids : placed_ids l.places ≡ placed_ids l.initial.places;
  others : KeepsKept l.initial.places l.places l.root;
}
