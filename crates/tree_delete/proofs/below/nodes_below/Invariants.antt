use Rattle.std.proofs.Common.{◌≡◌, ◌+◌, ◌-◌, length, take}
use Rattle.tree_insert.specs.Trees.{count_outs}
use Rattle.tree_delete.specs.Below.{AreWithin}
use Rattle.tree_delete.proofs.Finding.{IsFinding}
use Rattle.tree_delete.proofs.below.nodes_below.Given as goal

-- what hangs by the edge is found, and what hangs below the first of what is found
abbrev pub invariant-loop-place : goal.invariant-loop-place
invariant-loop-place g l = record {
  finding : IsFinding l.store l.dfa (g.T.PathTree.tree l.tree) l.fn.edge l.ids.items l.place;
  within : AreWithin l.dfa l.ids.items;
  counted : l.steps ≡ l.initial.steps + l.place + count_outs l.store (take l.place l.ids.items);
}

abbrev pub decreases-loop-place : goal.decreases-loop-place
decreases-loop-place g l = length (g.T.PathTree.tree l.tree).nodes - l.place
