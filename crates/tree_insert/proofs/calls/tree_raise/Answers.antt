use Rattle.std.proofs.Common.{sym, subst, List, ℕ, rules}
use Rattle.edge_store.specs.Edges.{value_of}
use Rattle.dfa_table.specs.DfaValue.{step_of}
use Rattle.tree_insert.specs.Trees.{CoversStates}
use Rattle.tree_insert.proofs.Optimal.{ways_of_raised}
use Rattle.tree_insert.proofs.States.{covers_all}
use Rattle.tree_insert.proofs.calls.tree_raise.Goals as goal

pub raise-requires-clause-covers : goal.raise-requires-clause-covers
raise-requires-clause-covers g c =
    subst (λ (states : List ℕ). CoversStates (g.T.PathTree.tree c.args.tree.now) c.args.edge.from
    states)
    (sym c.deref.ensures.value)
    (covers_all c.requires.before.0 (step_of c.args.dfa.now) (g.T.PathTree.tree c.args.tree.now)
    c.in_ok-states.states.items c.requires.before.1 c.in_ok-states.ensures c.args.edge.from)

pub returns-in_err-states-clause-relaxes : goal.returns-in_err-states-clause-relaxes
returns-in_err-states-clause-relaxes g c = record {
  paths =
      ways_of_raised c.requires.before.0 (value_of c.args.store.now) (step_of c.args.dfa.now)
      (g.T.PathTree.tree c.args.tree.now) c.args.edge c.requires.before.2 c.requires.before.1.paths;
  keeps = search rules;
  later = search rules;
  steps = search rules;
}
