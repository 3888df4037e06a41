use Rattle.std.proofs.Common.{ap, subst, sym, ◌∙◌, arith}
use Rattle.edge_store.specs.Edges.{value_of}
use Rattle.dfa_table.specs.DfaValue.{step_of}
use Rattle.delta_tree.specs.declared.node.NodeId.{NodeId}
use Rattle.tree_delete.specs.Entries.{CanEnter, IsEntry}
use Rattle.tree_delete.proofs.BestEntries.{if_either}
use Rattle.tree_delete.proofs.FromNodes.{from_all, from_root, node_one_more}
use Rattle.tree_delete.proofs.from_nodes.best_from_nodes.Goals as goal

pub loop-k-init : goal.loop-k-init
loop-k-init g c = record {
  entry = c.best_from-best.ensures.entry;
  most = from_root (value_of c.args.store.now) (step_of c.args.dfa.now)
      (g.T.PathTree.tree c.args.tree.now) c.args.id
      c.best_from-best.result
      (λ edge number leaves can. c.best_from-best.ensures.most edge number
      (leaves ∙ ap (λ (each : NodeId). each.vertex) (sym c.requires.root))
      (subst (λ (each : NodeId). CanEnter (value_of c.args.store.now) (step_of c.args.dfa.now)
      (g.T.PathTree.tree c.args.tree.now) c.args.id edge each.state number) (sym c.requires.root)
      can));
  count = omega (arith, c.tick.ensures);
}

pub loop-k-preserved : goal.loop-k-preserved
loop-k-preserved g c =
    let values = value_of c.args.store.now in
    let step = step_of c.args.dfa.now in
    let was = c.loop-k.invariant in
    record {
      entry = if_either c.loop-k.best c.best_from-entry.result c.better-best.result
          (IsEntry values step (g.T.PathTree.tree c.args.tree.now) c.args.id)
          c.better-best.ensures.either was.entry
          c.best_from-entry.ensures.entry;
      most = node_one_more values step (g.T.PathTree.tree c.args.tree.now) c.args.id c.loop-k.best
          c.better-best.result c.loop-k.k c.node_at.result was.most c.better-best.ensures.first
          c.node_at.ensures
          (λ edge number leaves can. c.better-best.ensures.second number
          (c.best_from-entry.ensures.most edge number leaves can));
      count = omega (arith, was.count, c.tick.ensures);
    }

pub returns-clause-most : goal.returns-clause-most
returns-clause-most g c =
    from_all (value_of c.args.store.now) (step_of c.args.dfa.now) (g.T.PathTree.tree
    c.args.tree.now) c.args.id
    c.loop-k.best c.loop-k.k (omega (arith, c.loop-k-test.false, c.requires.count))
    c.requires.walk.1 c.loop-k.invariant.most

pub returns-clause-counted : goal.returns-clause-counted
returns-clause-counted g c = omega (
  arith,
  c.loop-k.invariant.count,
  c.loop-k-test.false,
  c.requires.count,
)
