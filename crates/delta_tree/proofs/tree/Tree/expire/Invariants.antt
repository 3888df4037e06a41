use Rattle.std.proofs.Common.{◌≡◌}
use Rattle.delta_tree.specs.Dues.{pending}
use Rattle.delta_tree.proofs.Expiry.{IsExpiring}
use Rattle.delta_tree.proofs.tree.Tree.expire.Given as goal

-- what is above the clock stays
abbrev pub invariant-loop-next : goal.invariant-loop-next
invariant-loop-next l = record {
  expiring : IsExpiring l.now l.initial.self-inside.nodes l.self-inside.nodes
      l.self-inside.dues.items;
  root : l.self-inside.root ≡ l.initial.self-inside.root;
  puts : l.self-inside.puts ≡ l.initial.self-inside.puts;
}

abbrev pub decreases-loop-next : goal.decreases-loop-next
decreases-loop-next l = pending l.now l.self-inside.dues.items
