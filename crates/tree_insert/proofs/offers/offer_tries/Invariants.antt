use Rattle.edge_store.specs.Edges.{value_of}
use Rattle.tree_insert.specs.Waiting.{Gains}
use Rattle.tree_insert.specs.UnderWay.{IsOpen}
use Rattle.tree_insert.proofs.OpenTries.{AreServedFirst}
use Rattle.tree_insert.proofs.offers.offer_tries.Given as goal

abbrev pub invariant-loop-step : goal.invariant-loop-step
invariant-loop-step g l = record {
  gains : Gains l.initial.search l.search (IsOpen (value_of l.store) l.dfa
      (g.T.PathTree.tree l.tree));
  served : AreServedFirst (value_of l.store) (g.T.PathTree.tree l.tree) l.search.waiting l.tries
      l.step-index;
}
