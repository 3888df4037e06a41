use Rattle.std.proofs.Common.{◌+◌, List, Option, None, Vec, Global, drop, get_or, sym, subst, arith}
use Rattle.std.proofs.lemmas.List.{drop_all, drop_more}
use Rattle.delta_tree.specs.declared.node.Shift.{Shift}
use Rattle.delta_tree.specs.Nodes.{node_id}
use Rattle.source_tree.specs.Telling.{Logs}
use Rattle.source_tree.specs.declared.change.EndChange.{EndChange}
use Rattle.source_tree.specs.declared.change.Outcome.{Outcome}
use Rattle.source_tree.proofs.Shifts.{TellsOne, one_ends, one_more, one_other}
use Rattle.source_tree.proofs.ends.log_by_one.Goals.{then-shift-state+in_ok-log_end, else-shift-state}
use Rattle.source_tree.proofs.ends.log_by_one.Goals as goal

pub loop-shift-preserved : goal.loop-shift-preserved
loop-shift-preserved c old new are empty =
    let root = c.args.root in
    let state = c.args.state in
    let shifts = c.args.shifts.now in
    let log = c.loop-shift.log.items in
    let i = c.loop-shift.shift-index in
    let rest = drop (i + 1) shifts in
    let none : Shift = record { id = node_id 0 0; before = None; after = None } in
    let shift = get_or shifts i none in
    let tells = subst (λ (left : List Shift). TellsOne root state old new left log)
    (drop_more shifts i none c.loop-shift-test.true)
    (c.loop-shift.invariant old new are empty) in
    elim c.if-shift-state.branch [
      | then-shift-state+in_ok-log_end w ↦
          subst (λ (now : Vec EndChange Global). TellsOne root state old new rest now.items)
          (sym w.log-is)
          (one_more root state old new shift rest log tells
          w.if-shift-state.true w.log_end.new.log.items
          (subst (λ (outcome : Option Outcome).
          Logs root shift.id.vertex outcome log w.log_end.new.log.items)
          w.outcome_by.ensures w.in_ok-log_end.ensures))
      | else-shift-state w ↦
          subst (λ (now : Vec EndChange Global). TellsOne root state old new rest now.items)
          (sym w.log-is)
          (one_other root state old new shift rest log tells
          w.if-shift-state.false)
    ]

pub returns : goal.returns
returns c old new are empty =
    one_ends c.args.root c.args.state old new c.loop-shift.log.items
    (subst (λ (left : List Shift).
    TellsOne c.args.root c.args.state old new left c.loop-shift.log.items)
    (drop_all c.loop-shift.shift-index c.args.shifts.now (omega arith))
    (c.loop-shift.invariant old new are empty))
