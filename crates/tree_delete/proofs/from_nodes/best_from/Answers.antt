use Rattle.std.proofs.Common.{length, ap, arith}
use Rattle.edge_store.specs.Edges.{value_of}
use Rattle.dfa_table.specs.DfaValue.{step_of}
use Rattle.tree_delete.specs.Entries.{IsEntry}
use Rattle.tree_delete.proofs.BestEntries.{if_either}
use Rattle.tree_delete.proofs.FromNodes.{by_all_labels, label_one_more}
use Rattle.tree_delete.proofs.from_nodes.best_from.Goals as goal

pub loop-label-preserved : goal.loop-label-preserved
loop-label-preserved g c =
    let values = value_of c.args.store.now in
    let step = step_of c.args.dfa.now in
    let was = c.loop-label.invariant in
    record {
      entry = if_either c.loop-label.best c.entry_along-entry.result c.better-best.result
          (IsEntry values step (g.T.PathTree.tree c.args.tree.now) c.args.id)
          c.better-best.ensures.either was.entry
          c.entry_along-entry.ensures.entry;
      most = label_one_more values step (g.T.PathTree.tree c.args.tree.now) c.args.id c.args.from
          c.loop-label.best
          c.better-best.result c.loop-label.label was.most c.better-best.ensures.first
          (λ number can. c.better-best.ensures.second number
          (c.entry_along-entry.ensures.most number can));
    }

pub returns-clause-most : goal.returns-clause-most
returns-clause-most g c =
    by_all_labels c.args.dfa.now (value_of c.args.store.now) (g.T.PathTree.tree c.args.tree.now)
    c.args.id c.args.from
    c.loop-label.best c.loop-label.label c.states.ensures.valid
    (omega (arith, ap length c.labels.ensures.labels))
    c.loop-label.invariant.most
