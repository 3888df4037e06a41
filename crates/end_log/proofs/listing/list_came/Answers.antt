use Rattle.std.proofs.Common.{◌++◌, [], None, ap, ◌∙◌}
use Rattle.std.specs.List.{cons_option}
use Rattle.delta_tree.specs.Nodes.{node_id}
use Rattle.wide_search.specs.declared.lifts.Lift.{Lift}
use Rattle.end_log.specs.Moves.{came, final_one}
use Rattle.end_log.proofs.Filtered.{filter_more}
use Rattle.end_log.proofs.listing.list_came.Goals as goal

pub loop-lift-preserved : goal.loop-lift-preserved
loop-lift-preserved c =
    let none : Lift = record { root = 0; id = node_id 0 0; before = None } in
    filter_more (λ (each : Lift). final_one c.args.dfa.now (came each))
    c.args.lifts.now c.args.moved.now.items c.loop-lift.moved.items c.push_some.new.items.items
    c.loop-lift.lift-index none c.loop-lift.invariant c.loop-lift-test.true
    (c.in_ok-push_some.ensures
    ∙ ap (λ each. c.loop-lift.moved.items ++ cons_option each [])
    (c.final_one.ensures ∙ ap (final_one c.args.dfa.now) c.came.ensures))
