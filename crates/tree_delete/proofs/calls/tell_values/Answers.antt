use Rattle.std.proofs.Common.{◌≡◌, ◌<◌, ℕ, ◌+◌, List, Option, length, get_or, set, sym, ap, subst, ◌∙◌, arith}
use Rattle.delta_tree.specs.declared.node.Shift.{Shift}
use Rattle.tree_delete.proofs.Told.{AreTold, no_shift, told_none, told_more, told_all, written}
use Rattle.tree_delete.proofs.calls.tell_values.Goals as goal

pub loop-shift-init : goal.loop-shift-init
loop-shift-init g c = told_none (g.T.PathTree.tree c.args.tree.now) c.args.shifts.now.items
    c.deref_mut-shift-items.result.now c.deref_mut-shift-items.ensures.value

pub loop-shift-preserved : goal.loop-shift-preserved
loop-shift-preserved g c =
    let shifts = c.loop-shift.shift-items in
    let at = c.loop-shift.shift-index in
    let place : Shift = get_or shifts at no_shift in
    let within : at < length shifts = omega arith in
    subst (λ (after : Option ℕ). AreTold (g.T.PathTree.tree c.args.tree.now) c.args.shifts.now.items
    (set shifts at (record { id = place.id; before = place.before; after = after })) (at + 1))
    (sym c.value_of-shift.ensures)
    (told_more (g.T.PathTree.tree c.args.tree.now) c.args.shifts.now.items shifts at no_shift within
    c.loop-shift.invariant)

pub returns : goal.returns
returns g c =
    let old = c.args.shifts.now.items in
    let same = c.deref_mut-shift-items.ensures.value in
    let long : length old ≡ length c.deref_mut-shift-items.result.now =
    ap (λ (each : List Shift). length each) (sym same) in
    written c.args.shifts.now.len old c.loop-shift.shift-items (omega arith) (omega (arith, long))
    ∙ told_all (g.T.PathTree.tree c.args.tree.now) old c.loop-shift.shift-items
    c.loop-shift.shift-index
    (omega (arith, long)) c.loop-shift.invariant
