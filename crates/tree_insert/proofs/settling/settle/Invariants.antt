use Rattle.std.proofs.Common.{◌≡◌, ◌+◌, ◌≤◌, ◌<◌, ◌^◌, length}
use Rattle.edge_store.specs.Edges.{value_of}
use Rattle.dfa_table.specs.DfaValue.{step_of}
use Rattle.delta_tree.specs.Changes.{AreShifts, shift_ids}
use Rattle.tree_insert.specs.UnderWay.{AreServed, IsCounted, IsReady}
use Rattle.tree_insert.proofs.Tries.{to_do}
use Rattle.tree_insert.proofs.settling.settle.Given as goal

abbrev pub invariant-loop-taken : goal.invariant-loop-taken
invariant-loop-taken g l = record {
  ready : IsReady (value_of l.store) l.dfa (g.T.PathTree.tree l.fn.tree) (g.T.PathTree.tree l.tree)
      l.search.waiting;
  puts : (g.T.PathTree.tree l.tree).puts ≤ (g.T.PathTree.tree l.fn.tree).puts + length
      l.search.shifts;
  few : length l.search.shifts < 2 ^ 63;
  counted : IsCounted l.store (g.T.PathTree.tree l.fn.tree) (g.T.PathTree.tree l.tree)
      (shift_ids l.search.shifts) l.search.level
      l.fn.steps l.steps;
  shifts : AreShifts (g.T.PathTree.tree l.fn.tree) (g.T.PathTree.tree l.tree) l.search.shifts;
  beside : g.T.PathTree.beside l.tree ≡ g.T.PathTree.beside l.fn.tree;
  served : AreServed (value_of l.store) (step_of l.dfa) (g.T.PathTree.tree l.fn.tree)
      l.fn.search.waiting →
      AreServed (value_of l.store) (step_of l.dfa) (g.T.PathTree.tree l.tree) l.search.waiting;
}

abbrev pub decreases-loop-taken : goal.decreases-loop-taken
decreases-loop-taken g l = to_do l.search
