use Rattle.std.proofs.Common.{◌+◌, ◌-◌, ◌≤◌, length}
use Rattle.edge_store.specs.Edges.{outs_of, value_of}
use Rattle.tree_insert.specs.Waiting.{Gains}
use Rattle.tree_insert.specs.UnderWay.{Leaves}
use Rattle.tree_insert.proofs.Outs.{AreServedUpTo}
use Rattle.tree_insert.proofs.settling.offer_outs.Given as goal

abbrev pub invariant-loop-k : goal.invariant-loop-k
invariant-loop-k g l = record {
  gains : Gains l.initial.search l.search (Leaves (value_of l.store) l.dfa l.rise.id l.rise.value);
  served : AreServedUpTo l.dfa (g.T.PathTree.tree l.tree) l.search.waiting l.rise.id l.rise.value
      l.rise.before
      (outs_of l.store l.rise.id.vertex) l.k;
  within : l.k ≤ length (outs_of l.store l.rise.id.vertex);
  count : l.steps ≤ l.initial.steps + l.k;
}

abbrev pub decreases-loop-k : goal.decreases-loop-k
decreases-loop-k g l = length (outs_of l.store l.rise.id.vertex) - l.k
