use Rattle.std.proofs.Common.{◌≡◌, ◌+◌}
use Rattle.std.specs.Prelude.{IfSome}
use Rattle.edge_store.specs.Edges.{ins_of, value_of}
use Rattle.dfa_table.specs.DfaValue.{step_of}
use Rattle.tree_delete.specs.Entries.{IsEntry}
use Rattle.tree_delete.proofs.BestEntries.{IsMostFirst}
use Rattle.tree_delete.proofs.entries.best_by_edges.Given as goal

abbrev pub invariant-loop-k : goal.invariant-loop-k
invariant-loop-k g l = record {
  entry : IfSome l.best (IsEntry (value_of l.store) (step_of l.dfa) (g.T.PathTree.tree l.tree)
      l.id);
  most : IsMostFirst (step_of l.dfa) (g.T.PathTree.tree l.tree) l.id (ins_of l.store l.id.vertex)
      l.best l.k;
  count : l.steps ≡ l.initial.steps + l.k;
}
