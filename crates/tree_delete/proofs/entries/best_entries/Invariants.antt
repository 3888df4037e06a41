use Rattle.std.proofs.Common.{◌+◌, ◌≤◌, take}
use Rattle.std.specs.Prelude.{All}
use Rattle.edge_store.specs.Edges.{value_of}
use Rattle.delta_tree.specs.Changes.{shift_ids}
use Rattle.dfa_table.specs.DfaValue.{step_of}
use Rattle.tree_insert.specs.Trees.{IsValid}
use Rattle.tree_delete.specs.Entries.{count_ins}
use Rattle.tree_delete.proofs.BestEntries.{HasEntriesFirst}
use Rattle.tree_delete.proofs.entries.best_entries.Given as goal

abbrev pub invariant-loop-shift : goal.invariant-loop-shift
invariant-loop-shift g l = record {
  valid : All (IsValid (value_of l.store) (step_of l.dfa) (g.T.PathTree.tree l.tree)) l.tries.items;
  best : HasEntriesFirst (value_of l.store) (step_of l.dfa) (g.T.PathTree.tree l.tree)
      (shift_ids l.cut) l.tries.items
      l.shift-index;
  count : l.steps ≤ l.initial.steps + count_ins l.store
      (take l.shift-index (shift_ids l.cut));
}
