use Rattle.std.specs.Prelude.{IfSome}
use Rattle.edge_store.specs.Edges.{value_of}
use Rattle.dfa_table.specs.DfaValue.{step_of}
use Rattle.tree_delete.specs.Entries.{IsEntry}
use Rattle.tree_delete.proofs.FromNodes.{IsMostByLabels}
use Rattle.tree_delete.proofs.from_nodes.best_from.Given as goal

abbrev pub invariant-loop-label : goal.invariant-loop-label
invariant-loop-label g l = record {
  entry : IfSome l.best (IsEntry (value_of l.store) (step_of l.dfa) (g.T.PathTree.tree l.tree)
      l.id);
  most : IsMostByLabels (value_of l.store) (step_of l.dfa) (g.T.PathTree.tree l.tree) l.id l.from
      l.best l.label;
}
