use Rattle.std.proofs.Common.{◌≡◌}
use Rattle.std.specs.Prelude.{OnOk}
use Rattle.place_table.specs.Queue.{pending}
use Rattle.place_table.proofs.Expiry.{IsExpiring, AreTold}
use Rattle.place_table.proofs.table.PlaceTable.expire.Given as goal

-- what is above the clock stays, and what was taken out is in the list
abbrev pub invariant-loop-next : goal.invariant-loop-next
invariant-loop-next l = record {
  expiring : IsExpiring l.now l.initial.self-inside.places l.self-inside.places
      l.self-inside.dues.items;
  root : l.self-inside.root ≡ l.initial.self-inside.root;
  puts : l.self-inside.puts ≡ l.initial.self-inside.puts;
  marked : l.self-inside.marks ≡ l.initial.self-inside.marks;
  told : OnOk l.outcome (AreTold l.now l.initial.self-inside.places
      l.self-inside.places l.lost.items);
}

abbrev pub decreases-loop-next : goal.decreases-loop-next
decreases-loop-next l = pending l.now l.self-inside.dues.items
