use Rattle.tree_insert.specs.Waiting.{Gains}
use Rattle.tree_insert.specs.UnderWay.{IsBy}
use Rattle.tree_insert.proofs.OpenTries.{AreServedFromFirst}
use Rattle.tree_insert.proofs.offers.offer_from_states.Given as goal

abbrev pub invariant-loop-before : goal.invariant-loop-before
invariant-loop-before g l = record {
  gains : Gains l.initial.search l.search (IsBy l.dfa (g.T.PathTree.tree l.tree) l.edge l.value);
  served : AreServedFromFirst l.dfa (g.T.PathTree.tree l.tree) l.search.waiting l.edge l.value
      l.states
      l.before-index;
}
