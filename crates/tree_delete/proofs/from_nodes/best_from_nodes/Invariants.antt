use Rattle.std.proofs.Common.{◌≡◌, ◌+◌}
use Rattle.std.specs.Prelude.{IfSome}
use Rattle.edge_store.specs.Edges.{value_of}
use Rattle.dfa_table.specs.DfaValue.{step_of}
use Rattle.tree_delete.specs.Entries.{IsEntry}
use Rattle.tree_delete.proofs.FromNodes.{IsMostFrom}
use Rattle.tree_delete.proofs.from_nodes.best_from_nodes.Given as goal

abbrev pub invariant-loop-k : goal.invariant-loop-k
invariant-loop-k g l = record {
  entry : IfSome l.best (IsEntry (value_of l.store) (step_of l.dfa) (g.T.PathTree.tree l.tree)
      l.id);
  most : IsMostFrom (value_of l.store) (step_of l.dfa) (g.T.PathTree.tree l.tree) l.id l.best l.k;
  count : l.steps ≡ l.fn.steps + l.k + 1;
}
