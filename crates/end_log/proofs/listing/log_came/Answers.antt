use Rattle.std.proofs.Common.{◌++◌, [], None, ap, ◌∙◌}
use Rattle.std.specs.List.{cons_option}
use Rattle.delta_tree.specs.Nodes.{node_id}
use Rattle.wide_search.specs.declared.lifts.Lift.{Lift}
use Rattle.source_tree.specs.declared.change.Outcome.TheVariants.{Gained}
use Rattle.end_log.specs.Moves.{came, end_with}
use Rattle.end_log.proofs.Filtered.{filter_more}
use Rattle.end_log.proofs.listing.log_came.Goals as goal

pub loop-lift-preserved : goal.loop-lift-preserved
loop-lift-preserved c =
    let none : Lift = record { root = 0; id = node_id 0 0; before = None } in
    filter_more (λ (each : Lift). end_with c.args.state Gained (came each))
    c.args.lifts.now c.args.log.now.items c.loop-lift.log.items c.push_some.new.items.items
    c.loop-lift.lift-index none c.loop-lift.invariant c.loop-lift-test.true
    (c.in_ok-push_some.ensures
    ∙ ap (λ each. c.loop-lift.log.items ++ cons_option each [])
    (c.end_with.ensures ∙ ap (end_with c.args.state Gained) c.came.ensures))
