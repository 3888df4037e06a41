use Rattle.std.proofs.Common.{[], ◌∙◌, rules}
use Rattle.std.proofs.lemmas.Result.{on_ok_weaker}
use Rattle.edge_store.specs.Edges.{value_of}
use Rattle.dfa_table.specs.DfaValue.{step_of}
use Rattle.tree_insert.specs.UnderWay.{AreServed}
use Rattle.tree_insert.proofs.UnderWay.{keeps_risen, rises_itself, open_gained, open_none}
use Rattle.tree_insert.proofs.Paths.{ways_of_supported, supported_of_ways}
use Rattle.tree_insert.proofs.Optimal.{optimal_of_served, served_of_best}
use Rattle.tree_insert.proofs.search.Search.relax.Goals as goal

pub settle-requires : goal.settle-requires
settle-requires g c = record {
  begins = record {
    ready = record {
      under = record {
        tree_is = c.offer_tries.ensures.tree;
        supported =
            supported_of_ways (value_of c.args.store.now) (step_of c.args.dfa.now)
            (g.T.PathTree.tree c.args.tree.now)
            c.offer_tries.ensures.tree c.requires.paths;
        rises = rises_itself (g.T.PathTree.tree c.args.tree.now);
      };
      can = open_gained (value_of c.args.store.now) c.args.dfa.now (g.T.PathTree.tree
          c.args.tree.now) c.clear.new.self
          c.offer_tries.new.search
          (open_none (value_of c.args.store.now) c.args.dfa.now (g.T.PathTree.tree c.args.tree.now)
          c.clear.new.self.waiting
          c.clear.ensures.empty) c.offer_tries.ensures.gains;
    };
    none = c.offer_tries.ensures.gains.shifts ∙ c.clear.ensures.shifts;
  };
}

pub returns-clause-optimal : goal.returns-clause-optimal
returns-clause-optimal g c =
    let values = value_of c.args.store.now in
    let step = step_of c.args.dfa.now in
    on_ok_weaker c.settle.result
    (λ (served : AreServed values step (g.T.PathTree.tree c.args.tree.now)
    c.offer_tries.new.search.waiting →
    AreServed values step (g.T.PathTree.tree c.settle.new.tree) []).
    optimal_of_served values step (g.T.PathTree.tree c.settle.new.tree)
    c.settle.ensures.tree.tree_is
    c.settle.ensures.tree.supported
    (served (served_of_best values step (g.T.PathTree.tree c.args.tree.now) c.args.tries.now
    c.offer_tries.new.search.waiting c.requires.best c.in_ok-offer_tries.ensures.served)))
    c.settle.ensures.served

pub returns-clause-relaxes : goal.returns-clause-relaxes
returns-clause-relaxes g c = record {
  paths =
      ways_of_supported (value_of c.args.store.now) (step_of c.args.dfa.now)
      (g.T.PathTree.tree c.settle.new.tree)
      c.settle.ensures.tree.tree_is c.settle.ensures.tree.supported;
  keeps = keeps_risen (g.T.PathTree.tree c.args.tree.now) (g.T.PathTree.tree c.settle.new.tree)
      c.settle.ensures.tree.rises;
  later = search rules;
  steps = c.settle.ensures.counted;
}
