use Rattle.std.proofs.Common.{sym, subst}
use Rattle.edge_store.specs.Edges.{value_of}
use Rattle.dfa_table.specs.DfaValue.{step_of}
use Rattle.tree_insert.specs.Trees.{HasBest}
use Rattle.tree_insert.proofs.Optimal.{best_of_all}
use Rattle.tree_insert.proofs.calls.relax.Goals as goal

pub relax-requires-clause-best : goal.relax-requires-clause-best
relax-requires-clause-best g c =
    let values = value_of c.args.store.now in
    let step = step_of c.args.dfa.now in
    subst (HasBest values step (g.T.PathTree.tree c.args.tree.now)) (sym c.deref.ensures.value)
    (best_of_all values step (g.T.PathTree.tree c.args.tree.now) c.args.pending.tries.items
    c.requires.all)
