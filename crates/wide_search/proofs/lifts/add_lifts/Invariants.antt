use Rattle.std.proofs.Common.{◌≡◌, ◌++◌, map, take}
use Rattle.wide_search.specs.Lifts.{lift_at}
use Rattle.wide_search.proofs.lifts.add_lifts.Given as goal

abbrev pub invariant-loop-gain : goal.invariant-loop-gain
invariant-loop-gain l =
    l.lifts.items ≡ l.initial.lifts.items ++ map (lift_at l.id) (take l.gain-index l.gains)
