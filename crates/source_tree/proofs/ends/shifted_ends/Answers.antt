use Rattle.std.proofs.Common.{List, None, subst, arith}
use Rattle.std.proofs.lemmas.List.{take_all}
use Rattle.delta_tree.specs.declared.node.Shift.{Shift}
use Rattle.delta_tree.specs.Nodes.{node_id}
use Rattle.source_tree.specs.Telling.{TellShifted}
use Rattle.source_tree.proofs.Standing.{shifted_more, shifted_none}
use Rattle.source_tree.proofs.ends.shifted_ends.Goals as goal

pub loop-shift-init : goal.loop-shift-init
loop-shift-init c = shifted_none c.args.product.now.finals

pub loop-shift-preserved : goal.loop-shift-preserved
loop-shift-preserved c =
    let none : Shift = record { id = node_id 0 0; before = None; after = None } in
    shifted_more c.args.product.now.finals c.args.run.now c.loop-shift.shift-index none
    c.loop-shift.ends c.with_shift-ends.result c.loop-shift-test.true c.loop-shift.invariant
    c.with_shift-ends.ensures

pub returns : goal.returns
returns c =
    subst (λ (seen : List Shift). TellShifted c.args.product.now.finals seen c.loop-shift.ends)
    (take_all c.loop-shift.shift-index c.args.run.now (omega arith)) c.loop-shift.invariant
