use Rattle.std.specs.Prelude.{IfSome}
use Rattle.dfa_table.specs.DfaValue.{step_of}
use Rattle.tree_delete.specs.Entries.{IsEntryBy}
use Rattle.tree_delete.proofs.BestEntries.{IsMostFrom}
use Rattle.tree_delete.proofs.entries.entry_by.Given as goal

abbrev pub invariant-loop-before : goal.invariant-loop-before
invariant-loop-before g l = record {
  entry : IfSome l.best (IsEntryBy (step_of l.dfa) (g.T.PathTree.tree l.tree) l.id l.edge l.value);
  most : IsMostFrom (step_of l.dfa) (g.T.PathTree.tree l.tree) l.id l.edge l.value l.states l.best
      l.before-index;
}
