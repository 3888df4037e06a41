use Rattle.std.proofs.Common.{[], ◌∙◌, rules}
use Rattle.std.proofs.lemmas.Result.{on_ok_weaker}
use Rattle.edge_store.specs.Edges.{value_of}
use Rattle.dfa_table.specs.DfaValue.{step_of}
use Rattle.tree_insert.specs.UnderWay.{AreServed}
use Rattle.tree_insert.proofs.UnderWay.{keeps_risen, rises_itself, open_gained, open_none}
use Rattle.tree_insert.proofs.Paths.{ways_of_supported, supported_of_ways}
use Rattle.tree_insert.proofs.Optimal.{optimal_of_served, served_of_raised, ways_of_raised}
use Rattle.tree_insert.proofs.search.Search.raise.Goals as goal

pub returns-in_err-offer_edge-clause-relaxes : goal.returns-in_err-offer_edge-clause-relaxes
returns-in_err-offer_edge-clause-relaxes g c = record {
  paths =
      ways_of_raised c.requires.before.0 (value_of c.args.store.now) (step_of c.args.dfa.now)
      (g.T.PathTree.tree c.args.tree.now) c.args.edge c.requires.before.2 c.requires.before.1.paths;
  keeps = search rules;
  later = search rules;
  steps = search rules;
}

pub settle-requires : goal.settle-requires
settle-requires g c = record {
  begins = record {
    ready = record {
      under = record {
        tree_is = c.offer_edge.ensures.tree;
        supported =
            supported_of_ways (value_of c.args.store.now) (step_of c.args.dfa.now)
            (g.T.PathTree.tree c.args.tree.now)
            c.offer_edge.ensures.tree
            (ways_of_raised c.requires.before.0 (value_of c.args.store.now) (step_of c.args.dfa.now)
            (g.T.PathTree.tree c.args.tree.now) c.args.edge c.requires.before.2
            c.requires.before.1.paths);
        rises = rises_itself (g.T.PathTree.tree c.args.tree.now);
      };
      can = open_gained (value_of c.args.store.now) c.args.dfa.now (g.T.PathTree.tree
          c.args.tree.now) c.clear.new.self
          c.offer_edge.new.search
          (open_none (value_of c.args.store.now) c.args.dfa.now (g.T.PathTree.tree c.args.tree.now)
          c.clear.new.self.waiting
          c.clear.ensures.empty) c.offer_edge.ensures.gains;
    };
    none = c.offer_edge.ensures.gains.shifts ∙ c.clear.ensures.shifts;
  };
}

pub returns-clause-optimal : goal.returns-clause-optimal
returns-clause-optimal g c =
    let values = value_of c.args.store.now in
    let step = step_of c.args.dfa.now in
    on_ok_weaker c.settle.result
    (λ (served : AreServed values step (g.T.PathTree.tree c.args.tree.now)
    c.offer_edge.new.search.waiting →
    AreServed values step (g.T.PathTree.tree c.settle.new.tree) []).
    optimal_of_served values step (g.T.PathTree.tree c.settle.new.tree)
    c.settle.ensures.tree.tree_is
    c.settle.ensures.tree.supported
    (served (served_of_raised c.requires.before.0 values step (g.T.PathTree.tree c.args.tree.now)
    c.args.edge
    c.requires.before.2 c.offer_edge.new.search.waiting c.requires.before.1
    c.in_ok-offer_edge.ensures.served)))
    c.settle.ensures.served

pub returns-clause-relaxes : goal.returns-clause-relaxes
returns-clause-relaxes g c = record {
  paths =
      ways_of_supported (value_of c.args.store.now) (step_of c.args.dfa.now)
      (g.T.PathTree.tree c.settle.new.tree)
      c.settle.ensures.tree.tree_is c.settle.ensures.tree.supported;
  keeps = keeps_risen (g.T.PathTree.tree c.args.tree.now) (g.T.PathTree.tree c.settle.new.tree)
      c.settle.ensures.tree.rises;
  later = search rules;
  steps = c.settle.ensures.counted;
}
