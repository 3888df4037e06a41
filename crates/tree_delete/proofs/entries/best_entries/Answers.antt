use Rattle.std.proofs.Common.{◌≡◌, ◌<◌, length, get_or, Some, ap, ◌∙◌, arith, slice_get}
use Rattle.std.proofs.lemmas.Option.{slice_get-get_or}
use Rattle.edge_store.specs.Edges.{ins_of, value_of}
use Rattle.dfa_table.specs.DfaValue.{step_of}
use Rattle.delta_tree.specs.declared.node.NodeId.{NodeId}
use Rattle.delta_tree.specs.Changes.{shift_ids}
use Rattle.tree_delete.proofs.BestEntries.{valid_more, entries_more, entries_all, no_node, counted_more}
use Rattle.tree_delete.proofs.Told.{as_many, id_at, no_shift}
use Rattle.tree_delete.proofs.entries.best_entries.Goals as goal

pub returns-in_err-add-clause-counted : goal.returns-in_err-add-clause-counted
returns-in_err-add-clause-counted g c =
    let cut = c.args.cut.now in
    let at = c.loop-shift.shift-index in
    let within : at < length cut = omega arith in
    let inside : at < length (shift_ids cut) = omega (arith, within, as_many cut) in
    let more = counted_more c.args.store.now (shift_ids cut) at inside in
    omega (
      arith,
      more.0,
      more.1,
      ap (λ (id : NodeId). length (ins_of c.args.store.now id.vertex)) (id_at cut at within),
      c.best_entry.ensures.counted,
      c.loop-shift.invariant.count,
    )

pub loop-shift-preserved : goal.loop-shift-preserved
loop-shift-preserved g c =
    let values = value_of c.args.store.now in
    let step = step_of c.args.dfa.now in
    let cut = c.args.cut.now in
    let at = c.loop-shift.shift-index in
    let within : at < length cut = omega arith in
    let inside : at < length (shift_ids cut) = omega (arith, within, as_many cut) in
    let id : NodeId = (get_or cut at no_shift).id in
    let there : slice_get (shift_ids cut) at ≡ Some id =
    slice_get-get_or (shift_ids cut) at no_node inside
    ∙ ap (λ (each : NodeId). Some each) (id_at cut at within) in
    let more = counted_more c.args.store.now (shift_ids cut) at inside in
    record {
      valid = valid_more values step (g.T.PathTree.tree c.args.tree.now) c.loop-shift.tries.items
          c.add.new.tries.items
          id c.best_entry.result c.in_ok-add.ensures c.best_entry.ensures.entry
          c.loop-shift.invariant.valid;
      best = entries_more values step (g.T.PathTree.tree c.args.tree.now) (shift_ids cut)
          c.loop-shift.tries.items
          c.add.new.tries.items at id c.best_entry.result
          c.loop-shift.invariant.best there c.in_ok-add.ensures c.best_entry.ensures.entry
          c.best_entry.ensures.most;
      count = omega (
        arith,
        more.0,
        ap (λ (id : NodeId). length (ins_of c.args.store.now id.vertex)) (id_at cut at within),
        c.best_entry.ensures.counted,
        c.loop-shift.invariant.count,
      );
    }

pub returns-clause-best : goal.returns-clause-best
returns-clause-best g c id edge before number there can =
    entries_all (value_of c.args.store.now) (step_of c.args.dfa.now) (g.T.PathTree.tree
    c.args.tree.now)
    (shift_ids c.args.cut.now) c.loop-shift.tries.items c.loop-shift.shift-index
    (omega (arith, as_many c.args.cut.now))
    c.loop-shift.invariant.best id edge before number there can
