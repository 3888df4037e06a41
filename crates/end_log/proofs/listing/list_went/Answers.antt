use Rattle.std.proofs.Common.{◌++◌, [], ap, ◌∙◌}
use Rattle.std.specs.List.{cons_option}
use Rattle.delta_tree.specs.Nodes.{node_id}
use Rattle.place_table.specs.declared.gain.Lost.{Lost as Gone}
use Rattle.end_log.specs.Moves.{final_one, went}
use Rattle.end_log.proofs.Filtered.{filter_more}
use Rattle.end_log.proofs.listing.list_went.Goals as goal

pub loop-lost-preserved : goal.loop-lost-preserved
loop-lost-preserved c =
    let none : Gone = record { root = 0; id = node_id 0 0; before = 0 } in
    filter_more (λ (each : Gone). final_one c.args.dfa.now (went each))
    c.args.gone.now c.args.moved.now.items c.loop-lost.moved.items c.push_some.new.items.items
    c.loop-lost.lost-index none c.loop-lost.invariant c.loop-lost-test.true
    (c.in_ok-push_some.ensures
    ∙ ap (λ each. c.loop-lost.moved.items ++ cons_option each [])
    (c.final_one.ensures ∙ ap (final_one c.args.dfa.now) c.went.ensures))
