use Rattle.std.proofs.Common.{List, subst}
use Rattle.std.proofs.lemmas.List.{take_all}
use Rattle.rpq_base.specs.declared.data.Label.{Label}
use Rattle.path_engine.specs.Labels.{AddsRows}
use Rattle.path_engine.proofs.LabelRows.{label_added, none_added}
use Rattle.path_engine.proofs.labels.add_labels.Goals as goal

pub loop-label-init : goal.loop-label-init
loop-label-init c = none_added c.args.queries.now c.args.table.now

pub loop-label-preserved : goal.loop-label-preserved
loop-label-preserved c =
    label_added c.args.queries.now c.args.labels.now c.loop-label.label-index c.label-item.result
    c.in_ok-key.key c.in_ok-row.row c.args.table.now c.loop-label.table c.insert.new.self
    c.loop-label-test.true c.label-item.is c.in_ok-key.ensures c.in_ok-row.ensures c.requires
    c.in_ok-insert.ensures.updates.0 c.loop-label.invariant

pub returns : goal.returns
returns c =
    subst (λ (all : List Label).
    AddsRows c.args.queries.now all c.args.table.now c.loop-label.table)
    (take_all c.loop-label.label-index c.args.labels.now c.loop-label-test.false)
    c.loop-label.invariant
