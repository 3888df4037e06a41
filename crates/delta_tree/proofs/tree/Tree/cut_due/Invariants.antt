use Rattle.std.proofs.Common.{◌≡◌}
use Rattle.std.specs.Prelude.{OnOk}
use Rattle.delta_tree.specs.Dues.{pending}
use Rattle.delta_tree.proofs.Expiry.{IsExpiring, AreTold}
use Rattle.delta_tree.proofs.tree.Tree.cut_due.Given as goal

-- what is above the clock stays, and what was taken out is in the list
abbrev pub invariant-loop-next : goal.invariant-loop-next
invariant-loop-next l = record {
  expiring : IsExpiring l.now l.initial.self-inside.nodes l.self-inside.nodes
      l.self-inside.dues.items;
  root : l.self-inside.root ≡ l.initial.self-inside.root;
  puts : l.self-inside.puts ≡ l.initial.self-inside.puts;
  told : OnOk l.outcome (AreTold l.now l.initial.self-inside.nodes
      l.self-inside.nodes l.shifts.items);
}

abbrev pub decreases-loop-next : goal.decreases-loop-next
decreases-loop-next l = pending l.now l.self-inside.dues.items
