use Rattle.std.proofs.Common.{◌≡◌, ◌+◌, ◌++◌, map, take}
use Rattle.edge_store.specs.Edges.{outs_of}
use Rattle.dfa_table.specs.DfaValue.{step_of}
use Rattle.tree_delete.specs.Below.{AreWithin, children, onward}
use Rattle.tree_delete.proofs.below.add_children.Given as goal

-- those by the first of the edges that leave the vertex
abbrev pub invariant-loop-k : goal.invariant-loop-k
invariant-loop-k g l = record {
  added : l.ids.items ≡ l.initial.ids.items ++ children (step_of l.dfa) (g.T.PathTree.tree l.tree)
      (map (onward l.from) (take l.k (outs_of l.store l.from.vertex)));
  within : AreWithin l.dfa l.initial.ids.items → AreWithin l.dfa l.ids.items;
  counted : l.steps ≡ l.initial.steps + l.k;
}
