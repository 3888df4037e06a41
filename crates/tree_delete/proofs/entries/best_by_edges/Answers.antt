use Rattle.std.proofs.Common.{◌≡◌, Some, length, slice_get, sym, ap, ◌∙◌, arith}
use Rattle.edge_store.specs.declared.edge.EdgeId.{EdgeId}
use Rattle.edge_store.specs.Edges.{in_entry, ins_of, value_of}
use Rattle.dfa_table.specs.DfaValue.{step_of}
use Rattle.tree_delete.specs.Entries.{IsEntry, IsEntryBy}
use Rattle.tree_delete.proofs.BestEntries.{if_either, if_weaker, first_one_more, first_all, entry_of_walk}
use Rattle.tree_delete.proofs.entries.best_by_edges.Goals as goal

pub loop-k-preserved : goal.loop-k-preserved
loop-k-preserved g c =
    let values = value_of c.args.store.now in
    let step = step_of c.args.dfa.now in
    let each = c.at-each.result in
    let there : slice_get (ins_of c.args.store.now c.args.id.vertex) c.loop-k.k
    ≡ Some (in_entry each) =
    sym (ap (λ ins. slice_get ins c.loop-k.k) c.ins-ins.ensures.edges) ∙ c.at-each.ensures.there in
    let edge : EdgeId = record { from = each.from; label = each.label; to = c.args.id.vertex } in
    record {
      entry = if_either c.loop-k.best c.entry_by.result c.better-best.result
          (IsEntry values step (g.T.PathTree.tree c.args.tree.now) c.args.id)
          c.better-best.ensures.either
          c.loop-k.invariant.entry
          (if_weaker c.entry_by.result (IsEntryBy step (g.T.PathTree.tree c.args.tree.now) c.args.id
          edge each.value)
          (IsEntry values step (g.T.PathTree.tree c.args.tree.now) c.args.id)
          (λ entry by. entry_of_walk step (g.T.PathTree.tree c.args.tree.now) c.args.id
          c.args.store.now
          c.ins-ins.ensures.walk c.loop-k.k each entry there by)
          c.entry_by.ensures.entry);
      most = first_one_more step (g.T.PathTree.tree c.args.tree.now) c.args.id
          (ins_of c.args.store.now c.args.id.vertex) c.loop-k.best c.better-best.result c.loop-k.k
          each
          c.loop-k.invariant.most c.better-best.ensures.first there
          (λ before number low carries leads. c.better-best.ensures.second number
          (c.entry_by.ensures.most before number low carries leads));
      count = omega (arith, c.at-each.ensures.counted, c.loop-k.invariant.count);
    }

pub returns-clause-most : goal.returns-clause-most
returns-clause-most g c edge before number can =
    first_all (step_of c.args.dfa.now) (g.T.PathTree.tree c.args.tree.now) c.args.id
    c.args.store.now
    c.ins-ins.ensures.walk c.loop-k.best
    (λ place half value at low below there lower carries leads.
    c.loop-k.invariant.most place half value at low
    (omega (
      arith,
      below,
      c.loop-k-test.false,
      c.len-k-end.ensures,
      ap length c.ins-ins.ensures.edges,
    ))
    there lower
    carries leads)
    edge before number can

pub returns-clause-counted : goal.returns-clause-counted
returns-clause-counted g c = omega (
  arith,
  c.loop-k.invariant.count,
  c.loop-k-test.false,
  c.len-k-end.ensures,
  ap length c.ins-ins.ensures.edges,
)
