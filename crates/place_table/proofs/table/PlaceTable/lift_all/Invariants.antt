use Rattle.std.proofs.Common.{◌≡◌, ◌++◌}
use Rattle.place_table.specs.Lifts.{LiftsAll, between, lifted_gains}
use Rattle.place_table.specs.Raises.{HasNumber}
use Rattle.place_table.proofs.table.PlaceTable.lift_all.Given as goal

-- the gains so far were taken, and those that were lifted stand behind all
abbrev pub invariant-loop-at : goal.invariant-loop-at
invariant-loop-at l = record {
  lifts : LiftsAll l.fn.self l.self l.step l.width (between l.low l.at l.initial.gains.items);
  gains : l.gains.items ≡ l.initial.gains.items ++ lifted_gains l.fn.self l.step.to l.width
      (between l.low l.at l.initial.gains.items);
  number : HasNumber l.self l.step.to l.number;
  root : l.self.root ≡ l.fn.self.root;
  marked : l.self.marked ≡ l.fn.self.marked;
}
