use Rattle.std.proofs.Common.{◌++◌, [], ap, ◌∙◌}
use Rattle.std.specs.List.{cons_option}
use Rattle.delta_tree.specs.Nodes.{node_id}
use Rattle.place_table.specs.declared.gain.Lost.{Lost as Gone}
use Rattle.source_tree.specs.declared.change.Outcome.TheVariants.{Lost}
use Rattle.end_log.specs.Moves.{end_with, went}
use Rattle.end_log.proofs.Filtered.{filter_more}
use Rattle.end_log.proofs.listing.log_went.Goals as goal

pub loop-lost-preserved : goal.loop-lost-preserved
loop-lost-preserved c =
    let none : Gone = record { root = 0; id = node_id 0 0; before = 0 } in
    filter_more (λ (each : Gone). end_with c.args.state Lost (went each))
    c.args.gone.now c.args.log.now.items c.loop-lost.log.items c.push_some.new.items.items
    c.loop-lost.lost-index none c.loop-lost.invariant c.loop-lost-test.true
    (c.in_ok-push_some.ensures
    ∙ ap (λ each. c.loop-lost.log.items ++ cons_option each [])
    (c.end_with.ensures ∙ ap (end_with c.args.state Lost) c.went.ensures))
